-- Document 01, "The product", and 001, Tables 2.1 to 2.3: which words enter each sum, and what differs from width to width.
use Rattle.std.specs.Prelude.{Bool, cond, ◌||◌, List, [], ◌∷◌, ℕ, eqb, get_or}

-- the numbers of the words in sums 0 to 7 over X
abbrev pub left_sums : List (List ℕ)
left_sums =
    (0 ∷ 1 ∷ 2 ∷ 4 ∷ 7 ∷ [])
    ∷ (0 ∷ 1 ∷ 3 ∷ 4 ∷ 7 ∷ [])
    ∷ (0 ∷ 1 ∷ 4 ∷ 6 ∷ 7 ∷ [])
    ∷ (2 ∷ 3 ∷ 5 ∷ 6 ∷ 7 ∷ [])
    ∷ (1 ∷ 2 ∷ 3 ∷ 5 ∷ 6 ∷ [])
    ∷ (0 ∷ 2 ∷ 3 ∷ 4 ∷ 5 ∷ [])
    ∷ (0 ∷ 1 ∷ 5 ∷ 6 ∷ 7 ∷ [])
    ∷ (2 ∷ 3 ∷ 4 ∷ 5 ∷ 6 ∷ [])
    ∷ []

-- the same over Y
abbrev pub right_sums : List (List ℕ)
right_sums =
    (0 ∷ 1 ∷ 2 ∷ 5 ∷ 7 ∷ [])
    ∷ (0 ∷ 1 ∷ 3 ∷ 4 ∷ 6 ∷ [])
    ∷ (0 ∷ 1 ∷ 2 ∷ 3 ∷ 5 ∷ [])
    ∷ (2 ∷ 3 ∷ 4 ∷ 6 ∷ 7 ∷ [])
    ∷ (0 ∷ 1 ∷ 3 ∷ 4 ∷ 5 ∷ [])
    ∷ (2 ∷ 4 ∷ 5 ∷ 6 ∷ 7 ∷ [])
    ∷ (1 ∷ 2 ∷ 5 ∷ 6 ∷ 7 ∷ [])
    ∷ (0 ∷ 3 ∷ 4 ∷ 6 ∷ 7 ∷ [])
    ∷ []

-- the rotation amounts: two rows a width, over X and over Y
abbrev pub amounts : List (List ℕ)
amounts =
    (0 ∷ 4 ∷ 8 ∷ 13 ∷ 17 ∷ 22 ∷ 24 ∷ 29 ∷ [])
    ∷ (0 ∷ 5 ∷ 9 ∷ 11 ∷ 15 ∷ 20 ∷ 25 ∷ 27 ∷ [])
    ∷ (0 ∷ 5 ∷ 15 ∷ 22 ∷ 31 ∷ 40 ∷ 50 ∷ 59 ∷ [])
    ∷ (0 ∷ 10 ∷ 19 ∷ 29 ∷ 36 ∷ 44 ∷ 48 ∷ 55 ∷ [])
    ∷ []

-- what differs from width to width: the word's length in bits, and each half's constant and rotation amounts
pub record Width : Type 0 where
  pub bits : ℕ
  pub left_constant : ℕ
  pub right_constant : ℕ
  pub left_amounts : List ℕ
  pub right_amounts : List ℕ

-- 001, Table 2.1
abbrev pub width32 : Width
width32 =
    record {
      bits = 32;
      left_constant = 0xaaaa_aaaa;
      right_constant = 0x5555_5555;
      left_amounts = get_or amounts 0 [];
      right_amounts = get_or amounts 1 [];
    }

-- 001, Table 2.2
abbrev pub width64 : Width
width64 =
    record {
      bits = 64;
      left_constant = 0xaaaa_aaaa_aaaa_aaaa;
      right_constant = 0x5555_5555_5555_5555;
      left_amounts = get_or amounts 2 [];
      right_amounts = get_or amounts 3 [];
    }

-- the width of 64 or else of 32 bits, by its number
abbrev pub width_of : ℕ → Width
width_of w = cond (eqb w 64) width64 width32

-- the widths that there are
abbrev pub known_width : ℕ → Bool
known_width w = eqb w 32 || eqb w 64
