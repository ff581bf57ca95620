-- Document 01, "Words and vectors", and 001, section 1.3: operations on words of w bits.
use Rattle.std.specs.Prelude.{ℕ, zero, suc, ◌+◌, ◌-◌, ◌*◌, ◌/◌, ◌%◌, ◌^◌}

-- sums, differences and products modulo 2^w
unfoldable pub plus : ℕ → ℕ → ℕ → ℕ
plus w a b = (a + b) % 2 ^ w

unfoldable pub minus : ℕ → ℕ → ℕ → ℕ
minus w a b = (a + (2 ^ w - b % 2 ^ w)) % 2 ^ w

unfoldable pub times : ℕ → ℕ → ℕ → ℕ
times w a b = a * b % 2 ^ w

-- x rotated to the left by r, within the word
unfoldable pub rotl : ℕ → ℕ → ℕ → ℕ
rotl w r x = (x * 2 ^ r) % 2 ^ w + x / 2 ^ (w - r)

-- Newton's step for the inverse of a, x (2 - a x) modulo 2^w: twice as many low bits are right after it
abbrev pub newton : ℕ → ℕ → ℕ → ℕ
newton w a x = x * (2 + (2 ^ w - a * x % 2 ^ w)) % 2 ^ w

abbrev pub newtons : ℕ → ℕ → ℕ → ℕ → ℕ
newtons w a zero x = x
newtons w a (suc n) x = newtons w a n (newton w a x)

-- the inverse of an odd a modulo 2^w: w steps, from the one bit in which 1 is right
abbrev pub inverse : ℕ → ℕ → ℕ
inverse w a = newtons w a w 1
