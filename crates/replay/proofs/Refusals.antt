-- What a replay refuses, by the tests in their order.
use Rattle.std.specs.Prelude.{Ok, None}
use mathlib.Core.Path.{◌≡◌, refl, sym, ap, ◌∙◌}
use mathlib.Core.Bool.{true, false}
use mathlib.Core.List.{List, []}
use Prim.Native.Nat.{ℕ, zero, suc, ◌%◌, ◌≤◌, ◌<◌}
use native.Mathlib.Nat.{zero-mod, zero-div}
use native.Mathlib.Omega.{arith}
use borrow.Author.Tests.{eq-eqb, ne_eqb, lt-leb, le-leb}
use lib.ListN.{length}
use Rattle.answer.specs.Answer.{Answer, refused_at}
use Rattle.answer.specs.declared.Refusal.{Refusal}
use Rattle.answer.specs.declared.Refusal.TheVariants.{Records, RecordCount}
use Rattle.answer.specs.Refuse.{is_done}
use Rattle.answer.proofs.Tests.{split}
use Rattle.sheet.specs.Read.{place_count}
use Rattle.sheet.specs.Sheet.{command_count}
use Rattle.sheet.specs.Run.{run_answer}
use Rattle.sheet.proofs.SheetAnswer.{passes, done_passed, refused_alike}
use Rattle.shuffle.specs.Shuffle.{record_length}
use Rattle.replay.specs.Difference.{same_words}
use Rattle.replay.specs.Replay.{recorded, replayed, first_false, record_count, record_tests, replay_tests, answered, replay_answer, is_refused}
use Rattle.replay.specs.Refusals.{ReplaysRefuse}

-- what is found is no refusal
not_refused : (w : ℕ) (s b r : List ℕ) (n k : ℕ) → is_refused (first_false n w s b r k) ≡ false
not_refused w s b r zero k = refl
not_refused w s b r (suc n) k =
    split (λ a. is_refused a ≡ false) (same_words (recorded w r k) (replayed w s b k)) _ _ (λ _. not_refused w s b r n (suc k)) (λ _. refl)

module _ (w : ℕ) (s b : List ℕ) where
  -- behind a run's own tests those of the records decide
  by_records : is_done (run_answer w s b) ≡ true → (r : List ℕ) → replay_tests w s b r ≡ record_tests w (length r) (command_count w s)
  by_records t r = sym (passes place_count w _ s _ (done_passed place_count w _ s _ t))

  module _ (r : List ℕ) where
    answers : {a : Answer} → replay_tests w s b r ≡ a → replay_answer w s b r ≡ answered a (first_false (record_count w r) w s b r 0)
    answers e = ap (λ (a : Answer). answered a (first_false (record_count w r) w s b r 0)) e

    as_run : (q : Refusal) (i : ℕ) → run_answer w s b ≡ refused_at q i → replay_answer w s b r ≡ refused_at q i
    as_run q i e = answers (sym (refused_alike place_count w _ s _ (record_tests w (length r) (command_count w s)) refl (ap is_done e)) ∙ e)

    module _ (t : is_done (run_answer w s b) ≡ true) where
      partial : (length r % record_length w ≡ 0 → ⊥) → replay_answer w s b r ≡ refused_at Records 0
      partial h = answers {a = refused_at Records 0} (by_records t r ∙ rw (ne_eqb (length r % record_length w) 0 h))

      module _ (whole : length r % record_length w ≡ 0) where
        surplus : command_count w s < record_count w r → replay_answer w s b r ≡ refused_at RecordCount 0
        surplus h = answers {a = refused_at RecordCount 0} (by_records t r ∙ rw (eq-eqb (length r % record_length w) 0 whole, lt-leb (record_count w r) (command_count w s) h))

        passed : record_count w r ≤ command_count w s → replay_tests w s b r ≡ Ok 0
        passed h = by_records t r ∙ rw (eq-eqb (length r % record_length w) 0 whole, le-leb (record_count w r) (command_count w s) h)

  none : is_done (run_answer w s b) ≡ true → replay_answer w s b [] ≡ Ok None
  none t =
      let z : record_count w [] ≡ 0 = zero-div (record_length w) in
      answers [] (passed [] t (zero-mod (record_length w)) (omega (arith, z))) ∙ ap (λ (n : ℕ). first_false n w s b [] 0) z

pub replays_refuse : ReplaysRefuse
replays_refuse w s b r =
    record {
      as_run = as_run w s b r;
      partial = partial w s b r;
      surplus = surplus w s b r;
      others = λ t h l. ap is_refused (answers w s b r (passed w s b r t h l)) ∙ not_refused w s b r (record_count w r) 0;
      none = none w s b;
    }
