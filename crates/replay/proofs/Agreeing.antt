-- How many words two lists have in common before the first that differs.
use mathlib.Core.Path.{◌≡◌, refl, sym, ap, ap₂, ◌∙◌}
use mathlib.Core.Bool.{Bool, true, false}
use mathlib.Core.List.{List, [], ◌∷◌}
use Prim.Native.Nat.{ℕ, zero, suc, ◌≤◌, ◌<◌}
use native.Mathlib.Omega.{arith}
use borrow.Author.Tests.{eq-eqb, ne_eqb, eqb-true, eqb-false}
use lib.Dec.{eqb}
use lib.ListN.{length, get_or}
use Rattle.answer.proofs.Tests.{split}
use Rattle.replay.specs.Difference.{agreeing}

-- what holds of both, where the first words agree and where they do not, holds of the number
by_first : (P : ℕ → Type 0) (a b : ℕ) (x y : List ℕ) → (a ≡ b → P (suc (agreeing x y))) → ((a ≡ b → ⊥) → P 0) → P (agreeing (a ∷ x) (b ∷ y))
by_first P a b x y f g = split P (eqb a b) (suc (agreeing x y)) 0 (λ t. f (eqb-true a b t)) (λ t. g (eqb-false a b t))

pub at_most : (x y : List ℕ) → agreeing x y ≤ length x
at_most [] y = omega arith
at_most (a ∷ x) [] = omega arith
at_most (a ∷ x) (b ∷ y) = by_first (λ n. n ≤ suc (length x)) a b x y (λ _. omega (arith, at_most x y)) (λ _. omega arith)

pub same_before : (x y : List ℕ) (j : ℕ) → j < agreeing x y → get_or x j 0 ≡ get_or y j 0
same_before [] y j h = absurd (omega arith)
same_before (a ∷ x) [] j h = absurd (omega arith)
same_before (a ∷ x) (b ∷ y) zero h =
    by_first (λ n. 0 < n → a ≡ b) a b x y (λ e _. e) (λ _ h. absurd (omega (arith, h))) h
same_before (a ∷ x) (b ∷ y) (suc j) h =
    by_first (λ n. suc j < n → get_or x j 0 ≡ get_or y j 0) a b x y (λ _ h. same_before x y j (omega (arith, h))) (λ _ h. absurd (omega (arith, h))) h

-- a number up to which the words are the same, and at which they differ, if there is one, is that number
pub agrees : (x y : List ℕ) (n : ℕ) → length x ≡ length y → n ≤ length x → ((j : ℕ) → j < n → get_or x j 0 ≡ get_or y j 0)
    → (n < length x → get_or x n 0 ≡ get_or y n 0 → ⊥) → agreeing x y ≡ n
agrees [] y n l h same other = omega arith
agrees (a ∷ x) [] n l h same other = absurd (omega (arith, l))
agrees (a ∷ x) (b ∷ y) zero l h same other =
    by_first (λ n. n ≡ 0) a b x y (λ e. absurd (other (omega arith) e)) (λ _. refl)
agrees (a ∷ x) (b ∷ y) (suc n) l h same other =
    by_first (λ m. m ≡ suc n) a b x y
    (λ _. ap suc (agrees x y n (omega (arith, l)) (omega arith) (λ j k. same (suc j) (omega (arith, k))) (λ k e. other (omega (arith, k)) e)))
    (λ d. absurd (d (same 0 (omega arith))))

pub differs_at : (x y : List ℕ) → length x ≡ length y → agreeing x y < length x → get_or x (agreeing x y) 0 ≡ get_or y (agreeing x y) 0 → ⊥
differs_at [] y l h e = omega arith
differs_at (a ∷ x) [] l h e = omega (arith, l)
differs_at (a ∷ x) (b ∷ y) l h e =
    by_first (λ n. n < suc (length x) → get_or (a ∷ x) n 0 ≡ get_or (b ∷ y) n 0 → ⊥) a b x y
    (λ _ h e. differs_at x y (omega (arith, l)) (omega (arith, h)) e) (λ d _ e. d e) h e

-- ---- all of them

pub agree_self : (x : List ℕ) → agreeing x x ≡ length x
agree_self x = agrees x x (length x) refl (omega arith) (λ j h. refl) (λ h. absurd (omega (arith, h)))

pub agree_all : (x y : List ℕ) → length x ≡ length y → agreeing x y ≡ length x → x ≡ y
agree_all [] [] l e = refl
agree_all [] (b ∷ y) l e = absurd (omega (arith, l))
agree_all (a ∷ x) [] l e = absurd (omega (arith, l))
agree_all (a ∷ x) (b ∷ y) l e =
    by_first (λ n. n ≡ suc (length x) → a ∷ x ≡ b ∷ y) a b x y
    (λ d e. ap₂ {C = List ℕ} (λ c z. c ∷ z) d (agree_all x y (omega (arith, l)) (omega (arith, e)))) (λ _ e. absurd (omega (arith, e))) e

-- a test that tells whether two lists of n words are the same
pub tells : (t : Bool) (x y : List ℕ) (n : ℕ) → length x ≡ n → length y ≡ n → (t ≡ true → x ≡ y) → (t ≡ false → x ≡ y → ⊥) → t ≡ eqb (agreeing x y) n
tells true x y n lx ly f g =
    sym (eq-eqb (agreeing x y) n (ap (λ (z : List ℕ). agreeing x z) (sym (f refl)) ∙ agree_self x ∙ lx))
tells false x y n lx ly f g =
    sym (ne_eqb (agreeing x y) n (λ e. g refl (agree_all x y (lx ∙ sym ly) (e ∙ sym lx))))
