-- Document 01, "Reference points": the points with a star, and those of document 02, Paper 8, each shown of the definitions, together as one fact.
use Rattle.std.specs.Prelude.{◌≡◌, refl, ℕ, ◌+◌, ◌*◌, ◌/◌, ◌^◌, length, replicate, Ok}
use mathlib.Core.List.{List, [], ◌∷◌, ◌++◌, sum}
use Rattle.answer.specs.Number.{number_of}
use Rattle.memory.specs.Bytes.{word_at, bytes_of}
use Rattle.word.specs.Word.{rotl}
use Rattle.digest.specs.Padding.{padded}
use Rattle.digest.specs.Kind.{narrow_kind, wide_kind}
use Rattle.sheet.specs.Read.{read_among}
use Rattle.sheet.specs.Sheet.{plan_among}
use Rattle.sheet.specs.SheetAnswer.{sheet_answer_among}
use Rattle.invertible.specs.RoundTrip.{Forward}
use Rattle.sheet.specs.Run.{vectors_from, run_answer, run_bytes}

abbrev one_to_eight : List ℕ
one_to_eight = 1 ∷ 2 ∷ 3 ∷ 4 ∷ 5 ∷ 6 ∷ 7 ∷ 8 ∷ []

-- the eight vectors of width w in lent bytes: V0 given, the others zero
abbrev lent : ℕ → List ℕ → List ℕ
lent w v = bytes_of (w / 8) (v ++ replicate 56 0)

-- of sheets, at width w. A refusal is said by document 01's number: 2^32 times the refusal number plus the offset.
pub record SheetPoints (w : ℕ) : Type 0 where
  -- the empty sheet: success, 0
  pub empty : run_answer w [] (lent w one_to_eight) ≡ Ok 0
  -- 06 00 on V0 = 1, 2, .., 8 gives 8, 7, .., 1
  pub flip : run_bytes Forward w (6 ∷ 0 ∷ []) (lent w one_to_eight) ≡ lent w (8 ∷ 7 ∷ 6 ∷ 5 ∷ 4 ∷ 3 ∷ 2 ∷ 1 ∷ [])
  -- 05 01 01 is 11 at 0
  pub same_place : number_of (run_answer w (5 ∷ 1 ∷ 1 ∷ []) (lent w one_to_eight)) ≡ 11 * 2 ^ 32 + 0
  -- 01 04 04 is 11 at 0
  pub same_place_4 : number_of (run_answer w (1 ∷ 4 ∷ 4 ∷ []) (lent w one_to_eight)) ≡ 11 * 2 ^ 32 + 0
  -- 06 04 is accepted
  pub place_4 : run_answer w (6 ∷ 4 ∷ []) (lent w one_to_eight) ≡ Ok 0
  -- 06 08 is 10 at 0
  pub place_8 : number_of (run_answer w (6 ∷ 8 ∷ []) (lent w one_to_eight)) ≡ 10 * 2 ^ 32 + 0
  -- 01 08 08 is 10 at 0
  pub same_place_8 : number_of (run_answer w (1 ∷ 8 ∷ 8 ∷ []) (lent w one_to_eight)) ≡ 10 * 2 ^ 32 + 0
  -- 01 04 is 9 at 0
  pub truncated : number_of (run_answer w (1 ∷ 4 ∷ []) (lent w one_to_eight)) ≡ 9 * 2 ^ 32 + 0
  -- 06 00 09 is 8 at 2, V0 unflipped
  pub opcode : number_of (run_answer w (6 ∷ 0 ∷ 9 ∷ []) (lent w one_to_eight)) ≡ 8 * 2 ^ 32 + 2
  pub unflipped : run_bytes Forward w (6 ∷ 0 ∷ 9 ∷ []) (lent w one_to_eight) ≡ lent w one_to_eight

pub record Points : Type 0 where
  -- bytes 23 FE 03 A1 are the word 0xA103FE23
  pub word : word_at 4 (0x23 ∷ 0xfe ∷ 0x03 ∷ 0xa1 ∷ []) 0 ≡ 0xa103_fe23
  -- 0x80000001 rotated by 4 is 0x00000018
  pub rotation : rotl 32 4 0x8000_0001 ≡ 0x0000_0018
  -- narrow padding of no bytes: 80, then 63 zeros
  pub padding_empty : padded narrow_kind.block [] ≡ 0x80 ∷ replicate 63 0
  -- of "abc": 61 62 63 80, zeros, 18 at byte 56, zeros
  pub padding_abc : padded narrow_kind.block (0x61 ∷ 0x62 ∷ 0x63 ∷ []) ≡ (0x61 ∷ 0x62 ∷ 0x63 ∷ 0x80 ∷ replicate 52 0) ++ 0x18 ∷ replicate 7 0
  -- narrow, 55 bytes fill one block, 56 need two
  pub narrow_55 : length (padded narrow_kind.block (replicate 55 0)) ≡ narrow_kind.block
  pub narrow_56 : length (padded narrow_kind.block (replicate 56 0)) ≡ 2 * narrow_kind.block
  -- wide, 119 fill one, 120 need two
  pub wide_119 : length (padded wide_kind.block (replicate 119 0)) ≡ wide_kind.block
  pub wide_120 : length (padded wide_kind.block (replicate 120 0)) ≡ 2 * wide_kind.block
  -- the points of sheets, at both widths
  pub sheets_32 : SheetPoints 32
  pub sheets_64 : SheetPoints 64

pub points : Points
unfolding rotl sheet_answer_among plan_among read_among vectors_from sum
points =
    record {
      word = refl;
      rotation = refl;
      padding_empty = refl;
      padding_abc = refl;
      narrow_55 = refl;
      narrow_56 = refl;
      wide_119 = refl;
      wide_120 = refl;
      sheets_32 =
          record {
            empty = refl;
            flip = refl;
            same_place = refl;
            same_place_4 = refl;
            place_4 = refl;
            place_8 = refl;
            same_place_8 = refl;
            truncated = refl;
            opcode = refl;
            unflipped = refl;
          };
      sheets_64 =
          record {
            empty = refl;
            flip = refl;
            same_place = refl;
            same_place_4 = refl;
            place_4 = refl;
            place_8 = refl;
            same_place_8 = refl;
            truncated = refl;
            opcode = refl;
            unflipped = refl;
          };
    }
