-- The bits in which two lists of one length differ, put together: none is set exactly where the lists are the same.
use mathlib.Core.Path.{◌≡◌, ap, sym, ◌∙◌}
use mathlib.Core.Bool.{false, ◌&&◌}
use mathlib.Core.List.{List, [], ◌∷◌}
use Prim.Native.Nat.{ℕ}
use native.Mathlib.Omega.{arith}
use borrow.Author.Tests.{eq-eqb, eqb-true}
use lib.Bits.{bit_or, bit_xor, xor_self}
use lib.Dec.{eqb}
use lib.ListN.{length}
use Rattle.std.proofs.lemmas.Bool.{ne_eqb}
use Rattle.std.specs.List.{fold, zip}
use Rattle.answer.proofs.Tests.{decide}
use Rattle.memory.proofs.Differing.{none_left, none_right, none_both, no_difference}
use Rattle.hmac.specs.Calls.{same}
use Rattle.hmac.proofs.Same.{unequal_same}

-- lists of different lengths are not the same
pub other_length : (a b : List ℕ) → (length a ≡ length b → ⊥) → false ≡ same a b
other_length a b n = sym (unequal_same a b (λ e. n (ap length e)))

-- a number with the bits in which two more numbers differ
abbrev pub with_difference : ℕ → ℕ × ℕ → ℕ
with_difference bits p = bit_or bits (bit_xor p.0 p.1)

one_compared : (bits x y : ℕ) → eqb (with_difference bits (x, y)) 0 ≡ eqb bits 0 && eqb x y
one_compared bits x y =
    let d = bit_xor x y in
    decide (eqb bits 0)
    (λ z. decide (eqb x y)
    (λ e. eq-eqb (bit_or bits d) 0 (none_both bits d (eqb-true bits 0 z) (ap (bit_xor x) (sym (eqb-true x y e)) ∙ xor_self x)) ∙ rw (z, e))
    (λ n. ne_eqb (bit_or bits d) 0 (λ o. let w = eq-eqb x y (no_difference x y (none_right bits d o)) in cc) ∙ rw (z, n)))
    (λ n. ne_eqb (bit_or bits d) 0 (λ o. let w = eq-eqb bits 0 (none_left bits d o) in cc) ∙ rw n)

pub all_compared : (bits : ℕ) (a b : List ℕ) → length a ≡ length b → eqb (fold with_difference bits (zip a b)) 0 ≡ eqb bits 0 && same a b
unfolding same
all_compared bits [] [] e = decide (eqb bits 0) (λ t. rw t) (λ t. rw t)
all_compared bits [] (y ∷ b) e = absurd (omega arith)
all_compared bits (x ∷ a) [] e = absurd (omega arith)
all_compared bits (x ∷ a) (y ∷ b) e =
    all_compared (with_difference bits (x, y)) a b (omega arith) ∙ ap (λ t. t && same a b) (one_compared bits x y)
    ∙ decide (eqb bits 0) (λ t. rw t) (λ t. rw t)
