-- The tests of a slice, in their order.
use Rattle.std.specs.Prelude.{Ok, Err}
use mathlib.Core.Path.{◌≡◌, refl, ap}
use mathlib.Core.Bool.{Bool, true, false, false≢true}
use mathlib.Core.List.{List}
use Prim.Native.Nat.{ℕ, ◌*◌}
use native.Mathlib.Omega.{arith}
use borrow.Author.Tests.{eqb-true}
use lib.Dec.{eqb}
use lib.ListN.{length}
use Rattle.answer.specs.Answer.{Answer, refused_at}
use Rattle.answer.specs.declared.Refusal.{Refusal}
use Rattle.answer.specs.declared.Refusal.TheVariants.{Start}
use Rattle.answer.specs.Refuse.{is_done}
use Rattle.quasigroup.specs.Tables.{known_width}
use Rattle.sheet.specs.Read.{place_count}
use Rattle.sheet.specs.Sheet.{Sound, plan_of}
use Rattle.sheet.specs.Run.{run_answer}
use Rattle.sheet.specs.Start.{is_start, then_start}
use Rattle.sheet.proofs.SheetAnswer.{done_passed}
use Rattle.slice.specs.Slice.{slice_tests}

-- what holds of each refusal under its condition, and of the run's success where there is a start, holds of the tests
start_cases : (P : Answer → Type 0) (t : Bool) (a : Answer) → ((r : Refusal) (at : ℕ) → a ≡ refused_at r at → P (refused_at r at)) → P (refused_at Start 0)
    → ((n : ℕ) → a ≡ Ok n → t ≡ true → P (Ok n)) → P (then_start t a)
start_cases P true (Ok n) f g h = h n refl refl
start_cases P false (Ok n) f g h = g
start_cases P t (Err err) f g h = f err.refusal err.offset refl

-- a success of the tests is the run's
pub start_done : (t : Bool) (a : Answer) (n : ℕ) → then_start t a ≡ Ok n → a ≡ Ok n
start_done true (Ok m) n e = e
start_done false (Ok m) n e = let z : ◌≡◌ {A = ℕ} 0 1 = cc in absurd (omega arith)
start_done t (Err err) n e = e

-- what is known behind the tests of a run, and of a slice
pub record RunPassed (w : ℕ) (s b : List ℕ) : Type 0 where
  pub known : known_width w ≡ true
  pub size : length b ≡ place_count * w
  pub sound : (plan_of w s).outcome ≡ Sound

pub record SlicePassed (w : ℕ) (s : List ℕ) (i : ℕ) (b : List ℕ) : Type 0 where
  pub run : RunPassed w s b
  pub start : is_start w s i ≡ true

module _ (w : ℕ) (s b : List ℕ) where
  pub run_passed : is_done (run_answer w s b) ≡ true → RunPassed w s b
  run_passed h =
      let fit = eqb (length b) (place_count * w) in
      let p = done_passed place_count w fit s _ h in
      record { known = p.width; size = eqb-true (length b) (place_count * w) p.operands; sound = p.sheet }

  module _ (i : ℕ) where
    pub by_tests : (P : Answer → Type 0) → ((r : Refusal) (at : ℕ) → run_answer w s b ≡ refused_at r at → P (refused_at r at)) → P (refused_at Start 0)
        → (SlicePassed w s i b → (n : ℕ) → P (Ok n)) → P (slice_tests w s i b)
    by_tests P f g h = start_cases P (is_start w s i) (run_answer w s b) f g (λ n e t. h (record { run = run_passed (ap is_done e); start = t }) n)

    pub tests_passed : is_done (slice_tests w s i b) ≡ true → SlicePassed w s i b
    tests_passed =
        by_tests (λ a. is_done a ≡ true → SlicePassed w s i b) (λ r at _ e. absurd (false≢true e)) (λ e. absurd (false≢true e)) (λ p n e. p)
