-- The differing bits of pairs of words, put together: none is set exactly where the words are the same.
use mathlib.Core.Path.{◌≡◌, sym, ap, subst, ◌∙◌}
use mathlib.Core.List.{List}
use Prim.Native.Nat.{ℕ, zero, suc, ◌+◌, ◌≤◌}
use native.Mathlib.Nat.{add-zero}
use native.Mathlib.Omega.{arith}
use borrow.Author.Tests.{eqb-true, eqb-false}
use lib.Bits.{bit_or, bit_xor, xor_self}
use lib.Dec.{eqb}
use lib.ListN.{length, get_or}
use lib.Seq.{ext_get_or}
use Rattle.memory.proofs.Differing.{none_left, none_right, none_both, no_difference}
use Rattle.replay.specs.Difference.{agreeing}
use Rattle.replay.proofs.Agreeing.{tells}

-- of the pairs from number i on, n after the first
abbrev bits_from : ℕ → ℕ → List ℕ → List ℕ → ℕ
bits_from zero i x y = bit_xor (get_or x i 0) (get_or y i 0)
bits_from (suc n) i x y = bit_or (bit_xor (get_or x i 0) (get_or y i 0)) (bits_from n (suc i) x y)

none_set : (n i : ℕ) (x y : List ℕ) → bits_from n i x y ≡ 0 → (j : ℕ) → j ≤ n → get_or x (i + j) 0 ≡ get_or y (i + j) 0
none_set zero i x y e j h =
    let z : i ≡ i + j = omega arith in
    subst (λ (k : ℕ). get_or x k 0 ≡ get_or y k 0) z (no_difference (get_or x i 0) (get_or y i 0) e)
none_set (suc n) i x y e zero h =
    let z : i ≡ i + 0 = sym (add-zero i) in
    subst (λ (k : ℕ). get_or x k 0 ≡ get_or y k 0) z
    (no_difference (get_or x i 0) (get_or y i 0) (none_left (bit_xor (get_or x i 0) (get_or y i 0)) (bits_from n (suc i) x y) e))
none_set (suc n) i x y e (suc j) h =
    let z : suc i + j ≡ i + suc j = omega arith in
    subst (λ (k : ℕ). get_or x k 0 ≡ get_or y k 0) z
    (none_set n (suc i) x y (none_right (bit_xor (get_or x i 0) (get_or y i 0)) (bits_from n (suc i) x y) e) j (omega arith))

none_of_same : (n i : ℕ) (x : List ℕ) → bits_from n i x x ≡ 0
none_of_same zero i x = xor_self (get_or x i 0)
none_of_same (suc n) i x = none_both (bit_xor (get_or x i 0) (get_or x i 0)) (bits_from n (suc i) x x) (xor_self (get_or x i 0)) (none_of_same n (suc i) x)

pub no_bits : (x y : List ℕ) → length x ≡ 8 → length y ≡ 8 → eqb (bits_from 7 0 x y) 0 ≡ eqb (agreeing x y) 8
no_bits x y lx ly =
    tells (eqb (bits_from 7 0 x y) 0) x y 8 lx ly
    (λ t.
    ext_get_or 0 x y (lx ∙ sym ly) λ j h.
    let z : 0 + j ≡ j = omega arith in
    subst (λ (k : ℕ). get_or x k 0 ≡ get_or y k 0) z (none_set 7 0 x y (eqb-true (bits_from 7 0 x y) 0 t) j (omega (arith, h, lx))))
    (λ t e. eqb-false (bits_from 7 0 x y) 0 t (ap (λ (z : List ℕ). bits_from 7 0 x z) (sym e) ∙ none_of_same 7 0 x))
