-- How large a distance gets, its two orders, the way round, and when it is 0.
use mathlib.Core.Path.{◌≡◌, refl, ap₂, sym}
use mathlib.Core.Bool.{Bool, true, false, cond}
use mathlib.Core.List.{List, [], ◌∷◌}
use Prim.Native.Nat.{ℕ, zero, suc, ◌+◌, ◌*◌, ◌/◌, ◌%◌, ◌^◌, ◌<◌, ◌≤◌}
use native.Mathlib.Omega.{arith}
use borrow.Author.Tests.{eqb-true, eqb-false, eq-eqb, ne_eqb}
use lib.Dec.{eqb}
use lib.ListN.{length}
use Rattle.memory.specs.Bytes.{Bytes}
use Rattle.hamming.specs.Distance.{unequal, differing_bits, distance}
use Rattle.hamming.specs.Metric.{Metric}
use Rattle.hamming.proofs.Bits.{half_below}
use Rattle.hamming.proofs.Distance.{distance_append}

-- ---- how large it gets

unequal_le : (a b : ℕ) → unequal a b ≤ 1
unequal_le a b = by (eqb a b)
  where
    by : (t : Bool) → cond t 0 1 ≤ 1
    by true = omega arith
    by false = omega arith

bits_le : (n x y : ℕ) → differing_bits n x y ≤ n
unfolding differing_bits
bits_le zero x y = omega arith
bits_le (suc n) x y = omega (arith, unequal_le (x % 2) (y % 2), bits_le n (x / 2) (y / 2))

pub distance_le : (s t : List ℕ) → distance s t ≤ 8 * length s
unfolding distance
distance_le [] t = omega arith
distance_le (a ∷ s) [] = omega arith
distance_le (a ∷ s) (b ∷ t) = omega (arith, bits_le 8 a b, distance_le s t)

-- ---- either order

unequal_comm : (a b : ℕ) → unequal a b ≡ unequal b a
unequal_comm a b = by (eqb a b) refl
  where
    by : (t : Bool) → eqb a b ≡ t → ◌≡◌ {A = ℕ} (cond t 0 1) (unequal b a)
    by true e = rw (eq-eqb b a (sym (eqb-true a b e)))
    by false e = rw (ne_eqb b a (λ d. eqb-false a b e (sym d)))

bits_comm : (n x y : ℕ) → differing_bits n x y ≡ differing_bits n y x
unfolding differing_bits
bits_comm zero x y = refl
bits_comm (suc n) x y = ap₂ {C = ℕ} (λ p q. p + q) (unequal_comm (x % 2) (y % 2)) (bits_comm n (x / 2) (y / 2))

distance_comm : (s t : List ℕ) → distance s t ≡ distance t s
unfolding distance
distance_comm [] [] = refl
distance_comm [] (b ∷ t) = refl
distance_comm (a ∷ s) [] = refl
distance_comm (a ∷ s) (b ∷ t) = ap₂ {C = ℕ} (λ p q. p + q) (bits_comm 8 a b) (distance_comm s t)

-- ---- the way round

unequal_round : (a b c : ℕ) → unequal a c ≤ unequal a b + unequal b c
unequal_round a b c = by (eqb a b) refl
  where
    by : (t : Bool) → eqb a b ≡ t → unequal a c ≤ cond t 0 1 + unequal b c
    by true e = rw (eqb-true a b e) (omega arith)
    by false e = omega (arith, unequal_le a c)

bits_round : (n x y z : ℕ) → differing_bits n x z ≤ differing_bits n x y + differing_bits n y z
unfolding differing_bits
bits_round zero x y z = omega arith
bits_round (suc n) x y z = omega (arith, unequal_round (x % 2) (y % 2) (z % 2), bits_round n (x / 2) (y / 2) (z / 2))

distance_round : (s t u : List ℕ) → length s ≡ length t → length t ≡ length u → distance s u ≤ distance s t + distance t u
unfolding distance
distance_round [] t u e f = omega arith
distance_round (a ∷ s) [] u e f = absurd (omega arith)
distance_round (a ∷ s) (b ∷ t) [] e f = absurd (omega arith)
distance_round (a ∷ s) (b ∷ t) (c ∷ u) e f = omega (arith, bits_round 8 a b c, distance_round s t u (omega arith) (omega arith))

-- ---- 0 exactly where both are the same

unequal_self : (a : ℕ) → unequal a a ≡ 0
unequal_self a = rw (eq-eqb a a refl)

bits_self : (n x : ℕ) → differing_bits n x x ≡ 0
unfolding differing_bits
bits_self zero x = refl
bits_self (suc n) x = ap₂ {C = ℕ} (λ p q. p + q) (unequal_self (x % 2)) (bits_self n (x / 2))

distance_self : (s : List ℕ) → distance s s ≡ 0
unfolding distance
distance_self [] = refl
distance_self (a ∷ s) = ap₂ {C = ℕ} (λ p q. p + q) (bits_self 8 a) (distance_self s)

equal_bits : (a b : ℕ) → unequal a b ≡ 0 → a ≡ b
equal_bits a b = by (eqb a b) refl
  where
    by : (t : Bool) → eqb a b ≡ t → ◌≡◌ {A = ℕ} (cond t 0 1) 0 → a ≡ b
    by true d e = eqb-true a b d
    by false d e = absurd (omega arith)

no_bits : (n x y : ℕ) → x < 2 ^ n → y < 2 ^ n → differing_bits n x y ≡ 0 → x ≡ y
unfolding differing_bits
no_bits zero x y h g e = omega arith
no_bits (suc n) x y h g e =
    let a : x % 2 ≡ y % 2 = equal_bits (x % 2) (y % 2) (omega arith) in
    let b : x / 2 ≡ y / 2 = no_bits n (x / 2) (y / 2) (half_below n x h) (half_below n y g) (omega arith) in
    omega arith

distance_none : (s t : List ℕ) → Bytes s → Bytes t → length s ≡ length t → distance s t ≡ 0 → s ≡ t
unfolding distance
distance_none [] [] f g l e = refl
distance_none [] (b ∷ t) f g l e = absurd (omega arith)
distance_none (a ∷ s) [] f g l e = absurd (omega arith)
distance_none (a ∷ s) (b ∷ t) f g l e =
    ap₂ {B = List ℕ} {C = List ℕ} (λ x y. x ∷ y) (no_bits 8 a b (f 0) (g 0) (omega arith))
    (distance_none s t (λ i. f (suc i)) (λ i. g (suc i)) (omega arith) (omega arith))

pub metric : Metric
metric = record {
  same = distance_self;
  apart = distance_none;
  symmetric = distance_comm;
  triangle = distance_round;
  most = distance_le;
  parts = distance_append;
}
