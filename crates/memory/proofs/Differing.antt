-- The bits in which two numbers differ, and such bits of several pairs put together: none is set exactly where each pair is the same.
use mathlib.Core.Path.{◌≡◌, ap₂, ◌∙◌}
use Prim.Native.Nat.{ℕ}
use native.Mathlib.Omega.{arith}
use lib.Bits.{bit_or, bit_xor, and_le_l, and_le_r, or_add_and, xor_add_and, or_zero_l}

pub none_left : (a b : ℕ) → bit_or a b ≡ 0 → a ≡ 0
none_left a b e = omega (arith, or_add_and a b, and_le_r a b)

pub none_right : (a b : ℕ) → bit_or a b ≡ 0 → b ≡ 0
none_right a b e = omega (arith, or_add_and a b, and_le_l a b)

pub none_both : (a b : ℕ) → a ≡ 0 → b ≡ 0 → bit_or a b ≡ 0
none_both a b e f = ap₂ {C = ℕ} bit_or e f ∙ or_zero_l 0

pub no_difference : (a b : ℕ) → bit_xor a b ≡ 0 → a ≡ b
no_difference a b e = omega (arith, xor_add_and a b, and_le_l a b, and_le_r a b)
