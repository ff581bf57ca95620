-- Two lists that are the same: as a test, byte by byte, and by the bits in which their bytes differ.
use mathlib.Core.Path.{◌≡◌, refl, ap, ap₂, sym, ◌∙◌}
use mathlib.Core.Bool.{true, false}
use mathlib.Core.List.{List, [], ◌∷◌}
use Prim.Native.Nat.{ℕ}
use borrow.Author.Tests.{eqb-true, eq-eqb}
use lib.Dec.{eqb}
use Rattle.answer.proofs.Tests.{both_true, decide}
use Rattle.hmac.specs.Calls.{same}

pub same_equal : (s t : List ℕ) → same s t ≡ true → s ≡ t
unfolding same
same_equal [] [] e = refl
same_equal [] (b ∷ t) e = cc
same_equal (a ∷ s) [] e = cc
same_equal (a ∷ s) (b ∷ t) e =
    let f = both_true (eqb a b) (same s t) e in
    ap₂ {C = List ℕ} (λ x y. x ∷ y) (eqb-true a b f.0) (same_equal s t f.1)

same_self : (s : List ℕ) → same s s ≡ true
unfolding same
same_self [] = refl
same_self (a ∷ s) = rw (eq-eqb a a refl, same_self s)

pub equal_same : (s t : List ℕ) → s ≡ t → same s t ≡ true
equal_same s t e = ap (same s) (sym e) ∙ same_self s

-- where they are not
pub unequal_same : (s t : List ℕ) → (s ≡ t → ⊥) → same s t ≡ false
unequal_same s t n = decide (same s t) (λ e. absurd (n (same_equal s t e))) (λ e. e)
