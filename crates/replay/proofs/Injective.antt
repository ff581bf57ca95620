-- A replay's number and finding tell its answer.
use Rattle.std.specs.Prelude.{Ok, Err, Some, None}
use mathlib.Core.Path.{◌≡◌, refl, sym, ap, ap₂}
use mathlib.Core.List.{List}
use Prim.Native.Nat.{ℕ, zero, suc, ◌+◌, ◌%◌, ◌^◌, ◌≤◌, ◌<◌}
use native.Mathlib.Omega.{arith}
use borrow.Author.Tests.{ne_eqb, ltb-false, leb-true, le-leb, lt-leb}
use lib.Dec.{eqb, leb}
use lib.ListN.{length, get_or}
use Rattle.answer.specs.Answer.{Answer, refused_at}
use Rattle.answer.specs.declared.Refusal.{Refusal}
use Rattle.answer.specs.declared.Refusal.TheVariants.{Records, RecordCount}
use Rattle.answer.specs.Refuse.{unless}
use Rattle.answer.proofs.Injective.{numbers_injective}
use Rattle.answer.proofs.Refuse.{unless_cases}
use Rattle.answer.proofs.Tests.{split}
use Rattle.sheet.specs.Read.{place_count}
use Rattle.sheet.specs.Sheet.{command_count}
use Rattle.sheet.proofs.SheetAnswer.{by_tests}
use Rattle.sheet.proofs.Checked.{sound_few}
use Rattle.sheet.proofs.Fitting.{fault_fits}
use Rattle.shuffle.specs.Shuffle.{record_length}
use Rattle.replay.specs.declared.Finding.{Finding}
use Rattle.replay.specs.ReplayAnswer.{ReplayAnswer, false_record}
use Rattle.replay.specs.Difference.{same_words}
use Rattle.replay.specs.Replay.{recorded, replayed, first_false, record_count, answered, is_refused}
use Rattle.replay.specs.Number.{replay_number, finding_after}
use Rattle.replay.specs.Injective.{is_holds, ReplayFits, EveryReplayFits, ReplayNumbersInjective}

-- ---- every answer fits

few : (w : ℕ) (s b r : List ℕ) (n k : ℕ) → k + n ≤ 2048 → ReplayFits (first_false n w s b r k)
few w s b r zero k h = tt
few w s b r (suc n) k h =
    split ReplayFits (same_words (recorded w r k) (replayed w s b k)) _ _ (λ _. few w s b r n (suc k) (omega arith)) (λ _. (omega arith, omega arith))

pub every_replay_fits : EveryReplayFits
every_replay_fits w s b r =
    let P : Answer → Type 0 = λ a. ReplayFits (answered a (first_false (record_count w r) w s b r 0)) in
    by_tests place_count w _ s _ P (λ _. omega arith) (λ _. omega arith) (fault_fits w s) λ p.
    unless_cases P (eqb (length r % record_length w) 0) Records (unless (leb (record_count w r) (command_count w s)) RecordCount (Ok 0)) (λ _. omega arith) λ _.
    unless_cases P (leb (record_count w r) (command_count w s)) RecordCount (Ok 0) (λ _. omega arith) λ h.
    few w s b r (record_count w r) 0 (omega (arith, leb-true (record_count w r) (command_count w s) h, sound_few w s p.sheet))

-- ---- and is found again

large : (r : Refusal) (at : ℕ) → at < 2 ^ 32 → 2 ^ 32 ≤ replay_number (refused_at r at)
large r at h = ltb-false (replay_number (refused_at r at)) (2 ^ 32) (sym (numbers_injective.plain.refusal (refused_at r at) h))

holding : (a : ReplayAnswer) → ReplayFits a → is_holds a ≡ eqb (replay_number a) 0
holding (Ok None) h = refl
holding (Ok (Some found)) h = sym (ne_eqb found.number 0 (λ e. omega (arith, e, h.0)))
holding (Err err) h = sym (ne_eqb (replay_number (Err err)) 0 (λ e. omega (arith, e, large err.refusal err.offset h)))

refusal : (a : ReplayAnswer) → ReplayFits a → is_refused a ≡ leb (2 ^ 32) (replay_number a)
refusal (Ok None) h = refl
refusal (Ok (Some found)) h = sym (lt-leb (2 ^ 32) found.number (omega (arith, h.1)))
refusal (Err err) h = sym (le-leb (2 ^ 32) (replay_number (Err err)) (large err.refusal err.offset h))

abbrev finding_of : List ℕ → Finding
finding_of l = record { offset = get_or l 0 0; place = get_or l 1 0; word = get_or l 2 0; found = get_or l 3 0; expected = get_or l 4 0 }

abbrev again : Answer → ReplayAnswer
again (Ok n) = Ok None
again (Err err) = Err err

one : (a b : ReplayAnswer) (old : List ℕ) → ReplayFits a → ReplayFits b → replay_number a ≡ replay_number b → finding_after a old ≡ finding_after b old → a ≡ b
one (Ok None) (Ok None) old h k e f = refl
one (Ok None) (Ok (Some found)) old h k e f = absurd (omega (arith, e, k.0))
one (Ok None) (Err err) old h k e f = absurd (omega (arith, e, large err.refusal err.offset k))
one (Ok (Some found)) (Ok None) old h k e f = absurd (omega (arith, e, h.0))
one (Ok (Some found)) (Ok (Some found2)) old h k e f = ap₂ {C = ReplayAnswer} (λ n g. Ok (Some (false_record n g))) e (ap finding_of f)
one (Ok (Some found)) (Err err) old h k e f = absurd (omega (arith, e, h.1, large err.refusal err.offset k))
one (Err err) (Ok None) old h k e f = absurd (omega (arith, e, large err.refusal err.offset h))
one (Err err) (Ok (Some found)) old h k e f = absurd (omega (arith, e, k.1, large err.refusal err.offset h))
one (Err err) (Err err2) old h k e f = ap again (numbers_injective.plain.answer (Err err) (Err err2) h k e)

pub replay_numbers_injective : ReplayNumbersInjective
replay_numbers_injective = record { holding = holding; refusal = refusal; answer = one }
