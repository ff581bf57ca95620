-- What a call that is given a sheet answers, by the tests in their order, whatever it goes on to answer.
use mathlib.Core.Path.{◌≡◌, refl, sym, ◌∙◌}
use mathlib.Core.Bool.{Bool, true, false, true≢false, false≢true}
use mathlib.Core.List.{List}
use Prim.Native.Nat.{ℕ}
use Rattle.answer.specs.Answer.{Answer, refused_at}
use Rattle.answer.specs.declared.Refusal.{Refusal}
use Rattle.answer.specs.declared.Refusal.TheVariants.{Width, Operand}
use Rattle.answer.specs.Refuse.{unless, is_done}
use Rattle.answer.proofs.Refuse.{unless_cases}
use Rattle.quasigroup.specs.Tables.{known_width}
use Rattle.sheet.specs.Sheet.{Outcome, Sound, Faulty, plan_among}
use Rattle.sheet.specs.SheetAnswer.{unless_sound, sheet_answer_among}

sound_cases : (P : Answer → Type 0) (o : Outcome) (next : Answer) → ((r : Refusal) (i : ℕ) → o ≡ Faulty r i → P (refused_at r i)) → (o ≡ Sound → P next)
    → P (unless_sound o next)
sound_cases P Sound next f g = g refl
sound_cases P (Faulty r i) next f g = f r i refl

-- a refusal by the tests is the same whatever comes next
tests_alike : (a b : Answer) → is_done a ≡ true → (k fit : Bool) (o : Outcome) → is_done (unless k Width (unless fit Operand (unless_sound o a))) ≡ false
    → unless k Width (unless fit Operand (unless_sound o a)) ≡ unless k Width (unless fit Operand (unless_sound o b))
tests_alike a b d false fit o e = refl
tests_alike a b d true false o e = refl
tests_alike a b d true true (Faulty r i) e = refl
tests_alike a b d true true Sound e = absurd (true≢false (sym d ∙ e))

module _ (n w : ℕ) (fit : Bool) (s : List ℕ) where
  -- what is known behind the tests
  pub record Passed : Type 0 where
    pub width : known_width w ≡ true
    pub operands : fit ≡ true
    pub sheet : (plan_among n w s).outcome ≡ Sound

  module _ (next : Answer) where
    pub width_refused : known_width w ≡ false → refused_at Width 0 ≡ sheet_answer_among n w fit s next
    unfolding sheet_answer_among
    width_refused h = rw h

    pub operand_refused : known_width w ≡ true → fit ≡ false → refused_at Operand 0 ≡ sheet_answer_among n w fit s next
    unfolding sheet_answer_among
    operand_refused h k = rw (h, k)

    pub fault_refused : known_width w ≡ true → fit ≡ true → (r : Refusal) (i : ℕ) → (plan_among n w s).outcome ≡ Faulty r i
        → refused_at r i ≡ sheet_answer_among n w fit s next
    unfolding sheet_answer_among
    fault_refused h k r i e = rw (h, k, e)

    pub passes : Passed → next ≡ sheet_answer_among n w fit s next
    unfolding sheet_answer_among
    passes p = rw (p.width, p.operands, p.sheet)

    -- what holds of each refusal under its condition, and behind the tests of what comes next, holds of the answer
    pub by_tests : (P : Answer → Type 0) → (known_width w ≡ false → P (refused_at Width 0)) → (fit ≡ false → P (refused_at Operand 0))
        → ((r : Refusal) (i : ℕ) → (plan_among n w s).outcome ≡ Faulty r i → P (refused_at r i)) → (Passed → P next) → P (sheet_answer_among n w fit s next)
    unfolding sheet_answer_among
    by_tests P width operand fault pass =
        unless_cases P (known_width w) Width _ width λ h.
        unless_cases P fit Operand _ operand λ k.
        sound_cases P (plan_among n w s).outcome next fault λ e.
        pass (record { width = h; operands = k; sheet = e })

    pub refused_or : (P : Answer → Type 0) → ((r : Refusal) (i : ℕ) → P (refused_at r i)) → (Passed → P next) → P (sheet_answer_among n w fit s next)
    refused_or P refused pass = by_tests P (λ _. refused Width 0) (λ _. refused Operand 0) (λ r i _. refused r i) pass

    -- a success passed the tests, and a refusal where the next would be a success is by the tests
    pub done_passed : is_done (sheet_answer_among n w fit s next) ≡ true → Passed
    done_passed = by_tests (λ a. is_done a ≡ true → Passed) (λ _ e. absurd (false≢true e)) (λ _ e. absurd (false≢true e)) (λ r i _ e. absurd (false≢true e)) (λ p _. p)

    pub refused_alike : (other : Answer) → is_done next ≡ true → is_done (sheet_answer_among n w fit s next) ≡ false
        → sheet_answer_among n w fit s next ≡ sheet_answer_among n w fit s other
    unfolding sheet_answer_among
    refused_alike other d e = tests_alike next other d (known_width w) fit (plan_among n w s).outcome e
