-- The number of bits in which two lists of bytes differ, their Hamming distance, bit by bit.
use Rattle.std.specs.Prelude.{cond, List, [], ◌∷◌, ℕ, zero, suc, ◌+◌, ◌/◌, ◌%◌, eqb}

-- 0 if two bits are the same, else 1
abbrev pub unequal : ℕ → ℕ → ℕ
unequal a b = cond (eqb a b) 0 1

-- how many of the lowest n bits of x and y differ: the lowest bit, then the bits above it
unfoldable pub differing_bits : ℕ → ℕ → ℕ → ℕ
differing_bits zero x y = 0
differing_bits (suc n) x y = unequal (x % 2) (y % 2) + differing_bits n (x / 2) (y / 2)

-- how many bits of two lists of bytes differ, eight a byte: those of the first bytes, then of the bytes behind them, as far as both lists go
unfoldable pub distance : List ℕ → List ℕ → ℕ
distance [] t = 0
distance (a ∷ s) [] = 0
distance (a ∷ s) (b ∷ t) = differing_bits 8 a b + distance s t
