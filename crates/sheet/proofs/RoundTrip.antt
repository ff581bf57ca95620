-- The round trip of a list of runs.
use Rattle.std.specs.Prelude.{Ok}
use mathlib.Core.Path.{◌≡◌, sym, ap, ◌∙◌}
use mathlib.Core.Bool.{Bool}
use mathlib.Core.List.{List}
use Prim.Native.Nat.{ℕ, ◌*◌}
use borrow.Author.Tests.{eqb-true}
use lib.Dec.{eqb}
use lib.ListN.{length}
use Rattle.answer.specs.Answer.{Answer, refused_at}
use Rattle.answer.specs.declared.Refusal.{Refusal}
use Rattle.answer.proofs.Outcome.{outcome_holds, outcome_answer, outcome_back}
use Rattle.invertible.specs.Invertible.{Invertible}
use Rattle.invertible.proofs.RoundTrip.{round_trip}
use Rattle.quasigroup.proofs.Widths.{Bytewise, bytewise}
use Rattle.memory.specs.Bytes.{Bytes}
use Rattle.sheet.specs.Read.{place_count}
use Rattle.sheet.specs.Sheet.{plan_of}
use Rattle.sheet.specs.Work.{total_units}
use Rattle.sheet.specs.SheetAnswer.{sheet_answer}
use Rattle.invertible.specs.RoundTrip.{Direction, other}
use Rattle.sheet.specs.Run.{vectors_in, vector_bytes, run_vectors, run_answer, run_bytes}
use Rattle.sheet.specs.RoundTrip.{Run, answer_to, after, exchanged, RoundTrips}
use Rattle.sheet.proofs.Lent.{bytes_of_vectors, state_length, vectors_bytes, bytes_vectors, lent_state}
use Rattle.sheet.proofs.SheetAnswer.{Passed, refused_or}
use Rattle.sheet.proofs.Undoing.{run_state_lem, run_back}

-- ---- one run

module _ (g : Direction) (w : ℕ) (s : List ℕ) (hs : Bytes s) (b : List ℕ) (hb : Bytes b) where
  abbrev fit : ℕ → Bool
  fit n = eqb n (place_count * w)

  abbrev done : Answer
  done = Ok (total_units w s (plan_of w s).offsets)

  -- the bytes after a run that is not refused
  abbrev new : Direction → List ℕ → List ℕ
  new g b = vector_bytes w (run_vectors g w s (vectors_in w b))

  module _ (p : Passed place_count w (fit (length b)) s) where
    width : Bytewise w
    width = bytewise w p.width

    size : length b ≡ place_count * w
    size = eqb-true (length b) (place_count * w) p.operands

    new_length : length (new g b) ≡ length b
    new_length = state_length w width (run_vectors g w s (vectors_in w b)) (run_state_lem w width s hs (lent_state w width b hb place_count) g) ∙ sym size

    new_bytes : Bytes (new g b)
    new_bytes = bytes_of_vectors w width (run_vectors g w s (vectors_in w b))

    new_back : new (other g) (new g b) ≡ b
    new_back =
        let st = lent_state w width b hb place_count in
        let v = run_vectors g w s (vectors_in w b) in
        ap (λ (v : List (List ℕ)). vector_bytes w (run_vectors (other g) w s v)) (vectors_bytes w width v (run_state_lem w width s hs st g))
        ∙ ap (vector_bytes w) (run_back w width s hs st g)
        ∙ bytes_vectors w width b hb place_count size

  run_cases : (P : Answer → Type 0) → ((r : Refusal) (i : ℕ) → P (refused_at r i)) → (Passed place_count w (fit (length b)) s → (n : ℕ) → P (Ok n))
      → P (run_answer w s b)
  run_cases P refused pass = refused_or place_count w (fit (length b)) s done P refused (λ p. pass p (total_units w s (plan_of w s).offsets))

  abbrev answer_by : ℕ → Answer
  answer_by n = sheet_answer w (fit n) s done

  run_bytes_lem : Bytes (run_bytes g w s b)
  run_bytes_lem = outcome_holds Bytes length answer_by (new g) (new (other g)) b run_cases hb new_bytes

  -- the same run in the other direction
  pub same_answer : run_answer w s (run_bytes g w s b) ≡ run_answer w s b
  same_answer = outcome_answer Bytes length answer_by (new g) (new (other g)) b run_cases new_length

  pub there_and_back : run_bytes (other g) w s (run_bytes g w s b) ≡ b
  there_and_back = outcome_back Bytes length answer_by (new g) (new (other g)) b run_cases new_length new_back

-- ---- a list of runs

invertible : Invertible (λ (r : Run). Bytes r.sheet) Bytes after (λ r. after (exchanged r))
invertible =
    record {
      keeps = λ r b hr hb. run_bytes_lem r.direction r.width r.sheet hr b hb;
      back = λ r b hr hb. there_and_back r.direction r.width r.sheet hr b hb;
    }

same_answers : (r : Run) (b : List ℕ) → Bytes r.sheet → Bytes b → answer_to (exchanged r) (after r b) ≡ answer_to r b
same_answers r b hr hb = same_answer r.direction r.width r.sheet hr b hb

pub round_trips : RoundTrips
round_trips l hl b hb = round_trip exchanged after invertible answer_to same_answers hl b hb
