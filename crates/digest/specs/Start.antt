-- 001, Tables 1.3 to 1.6: the starting pipes. Two words break the run of consecutive bytes, with 24 for 34; document 01: the tables decide.
use Rattle.std.specs.Prelude.{[], ◌∷◌}
use Rattle.digest.specs.Pipe.{Pipe}

-- Table 1.3; word 13 reads 0x24353637
abbrev pub start224 : Pipe
start224 =
    record {
      first = 0x0001_0203 ∷ 0x0405_0607 ∷ 0x0809_0a0b ∷ 0x0c0d_0e0f ∷ 0x1011_1213 ∷ 0x1415_1617 ∷ 0x1819_1a1b ∷ 0x1c1d_1e1f ∷ [];
      second = 0x2021_2223 ∷ 0x2425_2627 ∷ 0x2829_2a2b ∷ 0x2c2d_2e2f ∷ 0x3031_3233 ∷ 0x2435_3637 ∷ 0x3839_3a3b ∷ 0x3c3d_3e3f ∷ [];
    }

-- Table 1.4
abbrev pub start256 : Pipe
start256 =
    record {
      first = 0x4041_4243 ∷ 0x4445_4647 ∷ 0x4849_4a4b ∷ 0x4c4d_4e4f ∷ 0x5051_5253 ∷ 0x5455_5657 ∷ 0x5859_5a5b ∷ 0x5c5d_5e5f ∷ [];
      second = 0x6061_6263 ∷ 0x6465_6667 ∷ 0x6869_6a6b ∷ 0x6c6d_6e6f ∷ 0x7071_7273 ∷ 0x7475_7677 ∷ 0x7879_7a7b ∷ 0x7c7d_7e7f ∷ [];
    }

-- Table 1.5; word 6 reads 0x3031323324353637
abbrev pub start384 : Pipe
start384 =
    record {
      first =
          0x0001_0203_0405_0607 ∷ 0x0809_0a0b_0c0d_0e0f ∷ 0x1011_1213_1415_1617 ∷ 0x1819_1a1b_1c1d_1e1f
          ∷ 0x2021_2223_2425_2627 ∷ 0x2829_2a2b_2c2d_2e2f ∷ 0x3031_3233_2435_3637 ∷ 0x3839_3a3b_3c3d_3e3f ∷ [];
      second =
          0x4041_4243_4445_4647 ∷ 0x4849_4a4b_4c4d_4e4f ∷ 0x5051_5253_5455_5657 ∷ 0x5859_5a5b_5c5d_5e5f
          ∷ 0x6061_6263_6465_6667 ∷ 0x6869_6a6b_6c6d_6e6f ∷ 0x7071_7273_7475_7677 ∷ 0x7879_7a7b_7c7d_7e7f ∷ [];
    }

-- Table 1.6
abbrev pub start512 : Pipe
start512 =
    record {
      first =
          0x8081_8283_8485_8687 ∷ 0x8889_8a8b_8c8d_8e8f ∷ 0x9091_9293_9495_9697 ∷ 0x9899_9a9b_9c9d_9e9f
          ∷ 0xa0a1_a2a3_a4a5_a6a7 ∷ 0xa8a9_aaab_acad_aeaf ∷ 0xb0b1_b2b3_b4b5_b6b7 ∷ 0xb8b9_babb_bcbd_bebf ∷ [];
      second =
          0xc0c1_c2c3_c4c5_c6c7 ∷ 0xc8c9_cacb_cccd_cecf ∷ 0xd0d1_d2d3_d4d5_d6d7 ∷ 0xd8d9_dadb_dcdd_dedf
          ∷ 0xe0e1_e2e3_e4e5_e6e7 ∷ 0xe8e9_eaeb_eced_eeef ∷ 0xf0f1_f2f3_f4f5_f6f7 ∷ 0xf8f9_fafb_fcfd_feff ∷ [];
    }
