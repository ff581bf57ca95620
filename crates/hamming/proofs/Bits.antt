-- The ones in an XOR are the bits in which its two operands differ.
use mathlib.Core.Path.{◌≡◌, refl, ap, ap₂, ◌∙◌}
use Prim.Native.Nat.{ℕ, zero, suc, ◌+◌, ◌/◌, ◌%◌, ◌^◌, ◌<◌}
use native.Mathlib.Nat.{pow-suc}
use native.Mathlib.Omega.{arith}
use lib.Arith.{lt-one}
use lib.Bits.{bit_xor, differ, xor_step}
use lib.Count.{ones, ones_cat}
use Rattle.hamming.specs.Distance.{unequal, differing_bits}

-- one bit
bit_xor_lem : (a b : ℕ) → a < 2 → b < 2 → ones (differ a b) ≡ unequal a b
unfolding ones
bit_xor_lem zero zero h g = refl
bit_xor_lem zero (suc zero) h g = refl
bit_xor_lem (suc zero) zero h g = refl
bit_xor_lem (suc zero) (suc zero) h g = refl
bit_xor_lem zero (suc (suc b)) h g = absurd (omega arith)
bit_xor_lem (suc zero) (suc (suc b)) h g = absurd (omega arith)
bit_xor_lem (suc (suc a)) b h g = absurd (omega arith)

differ_small : (a b : ℕ) → a < 2 → b < 2 → differ a b < 2 ^ 1
differ_small zero b h g = g
differ_small (suc zero) zero h g = h
differ_small (suc zero) (suc b) h g = omega arith
differ_small (suc (suc a)) b h g = absurd (omega arith)

pub half_below : (k n : ℕ) → n < 2 ^ suc k → n / 2 < 2 ^ k
half_below k n h = omega (arith, pow-suc 2 k)

pub ones_of_xor : (n a b : ℕ) → a < 2 ^ n → b < 2 ^ n → ones (bit_xor a b) ≡ differing_bits n a b
unfolding differing_bits ones
ones_of_xor zero a b h g = ap₂ {C = ℕ} (λ x y. ones (bit_xor x y)) (lt-one h) (lt-one g)
ones_of_xor (suc n) a b h g =
    let x : a % 2 < 2 = omega arith in
    let y : b % 2 < 2 = omega arith in
    ap ones (xor_step a b) ∙ ones_cat 1 (bit_xor (a / 2) (b / 2)) (differ (a % 2) (b % 2)) (differ_small (a % 2) (b % 2) x y)
    ∙ ap₂ {C = ℕ} (λ p q. p + q) (ones_of_xor n (a / 2) (b / 2) (half_below n a h) (half_below n b g)) (bit_xor_lem (a % 2) (b % 2) x y)
    ∙ omega arith
