-- What a call leaves that may be refused: once its answer is told, and by the call that takes it back.
use Rattle.std.specs.Prelude.{Ok}
use mathlib.Core.Path.{◌≡◌, refl, ap, ◌∙◌}
use mathlib.Core.Bool.{Bool, true, false, not}
use Prim.Native.Nat.{ℕ}
use Rattle.answer.specs.Answer.{Answer, refused_at}
use Rattle.answer.specs.declared.Refusal.{Refusal}
use Rattle.answer.specs.Refuse.{is_done, outcome}
use Rattle.answer.proofs.Tests.{goes_on, stops}
use Rattle.answer.proofs.Refuse.{refused_outcome, done_outcome}

-- code found the answer r to be what a definition says, and goes by whether it is a success
module _ {A : Type 0} {a r : Answer} (new old : A) (e : r ≡ a) {done : Bool} (d : done ≡ is_done r) where
  pub ends_refused : not done ≡ true → (r ≡ a) × (old ≡ outcome a new old)
  ends_refused n = (e, rw e at (refused_outcome r new old (stops d n)))

  pub ends_done : not done ≡ false → {last : A} → last ≡ new → (r ≡ a) × (last ≡ outcome a new old)
  ends_done n f = (e, f ∙ rw e at (done_outcome r new old (goes_on d n)))

-- An answer that depends on the state s by its size alone, and is a refusal or, behind the tests, a success. Where these are passed f keeps the size and
-- what holds of s, and g takes f back: then the two calls, refused or not, do the same.
module _ {S : Type 0} (I : S → Type 0) (size : S → ℕ) (answer : ℕ → Answer) (f g : S → S) (s : S) {Passed : Type 0}
    (cases : (P : Answer → Type 0) → ((r : Refusal) (i : ℕ) → P (refused_at r i)) → (Passed → (n : ℕ) → P (Ok n)) → P (answer (size s))) where
  abbrev left : Answer → S
  left a = outcome a (f s) s

  abbrev after : S
  after = left (answer (size s))

  pub outcome_holds : I s → (Passed → I (f s)) → I after
  outcome_holds h k = cases (λ a. I (left a)) (λ r i. h) (λ p n. k p)

  module _ (kept : Passed → size (f s) ≡ size s) where
    pub outcome_answer : answer (size after) ≡ answer (size s)
    outcome_answer = ap answer (cases (λ a. size (left a) ≡ size s) (λ r i. refl) (λ p n. kept p))

    pub outcome_back : (Passed → g (f s) ≡ s) → outcome (answer (size after)) (g after) after ≡ s
    outcome_back back =
        ap (λ (a : Answer). outcome a (g after) after) outcome_answer ∙ cases (λ a. outcome a (g (left a)) (left a) ≡ s) (λ r i. refl) (λ p n. back p)
