-- Bit strings, first bit first, and their bytes: eight bits a byte, the first of them the highest, as 001 draws "abc" in section 1.4.1.
use Rattle.std.specs.Prelude.{Bool, cond, List, [], ◌∷◌, ◌++◌, ℕ, zero, suc, ◌+◌, ◌*◌, ◌/◌, ◌%◌, ◌^◌, eqb, length, take, drop}

-- the number that bits write, the first the highest
abbrev pub value_of : List Bool → ℕ
value_of [] = 0
value_of (b ∷ s) = cond b (2 ^ length s) 0 + value_of s

-- the lowest w bits of x, the highest of them first
abbrev pub bits_of : ℕ → ℕ → List Bool
bits_of zero x = []
bits_of (suc w) x = eqb (x / 2 ^ w % 2) 1 ∷ bits_of w x

-- the bits of bytes
abbrev pub bit_string : List ℕ → List Bool
bit_string [] = []
bit_string (x ∷ m) = bits_of 8 x ++ bit_string m

-- the first n bytes of a bit string
abbrev pub first_bytes : ℕ → List Bool → List ℕ
first_bytes zero s = []
first_bytes (suc n) s = value_of (take 8 s) ∷ first_bytes n (drop 8 s)

-- its whole bytes
abbrev pub packed : List Bool → List ℕ
packed s = first_bytes (length s / 8) s

-- the bits behind them, fewer than eight
abbrev pub remainder : List Bool → List Bool
remainder s = drop (8 * (length s / 8)) s

-- the count highest bits of a byte
abbrev pub highest : ℕ → ℕ → List Bool
highest count x = take count (bits_of 8 x)
