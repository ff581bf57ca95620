-- A slice's number tells its answer.
use Rattle.std.specs.Prelude.{Ok, Err}
use mathlib.Core.Path.{◌≡◌, refl, sym, ap, ap₂, subst, ◌∙◌}
use mathlib.Core.List.{List}
use Prim.Native.Nat.{ℕ, ◌/◌, ◌%◌, ◌^◌, ◌≤◌, min}
use native.Mathlib.Omega.{arith}
use lib.Dec.{ltb}
use lib.ListN.{length}
use Rattle.answer.specs.Answer.{Answer, refused_at}
use Rattle.answer.specs.Injective.{Fits}
use Rattle.answer.proofs.Injective.{numbers_injective}
use Rattle.quasigroup.proofs.Widths.{of_known}
use Rattle.sheet.specs.Run.{vectors_in}
use Rattle.sheet.specs.Progress.{RunState, starting_at, remaining}
use Rattle.sheet.proofs.Checked.{sound_short}
use Rattle.sheet.proofs.Fitting.{run_fits}
use Rattle.sheet.proofs.Progress.{within_after}
use Rattle.sheet.proofs.Start.{suffix}
use Rattle.slice.specs.SliceAnswer.{SliceAnswer, reaching}
use Rattle.slice.specs.Slice.{sliced, reached_by}
use Rattle.slice.specs.Number.{answer_of, slice_number}
use Rattle.slice.specs.Injective.{is_reached, SliceFits, EverySliceFits, SliceNumbersInjective}
use Rattle.slice.proofs.Tests.{SlicePassed, by_tests}

-- ---- every answer fits

pub fits : (k w : ℕ) (s : List ℕ) (i : ℕ) (b : List ℕ) → SlicePassed w s i b
    → ((sliced k w s i (vectors_in w b)).offset ≤ 4096) × ((sliced k w s i (vectors_in w b)).units ≤ 1365)
fits k w s i b p =
    let q = p.run in
    let one : 1 ≤ w = of_known (λ w. 1 ≤ w) (omega arith) (omega arith) w q.known in
    let from = suffix w s q.sound i p.start in
    let start : RunState = starting_at i (vectors_in w b) in
    let h = within_after w s one (min k (length (remaining w s i))) start (record { inside = from.within; taken = omega arith }) in
    let short = sound_short w s q.sound in
    (omega (arith, h.inside), omega (arith, h.inside, h.taken))

pub every_slice_fits : EverySliceFits
every_slice_fits k w s i b =
    by_tests w s b i (λ a. SliceFits (reached_by a (sliced k w s i (vectors_in w b)))) (λ r at e. subst (Fits (2 ^ 32)) e (run_fits w s b)) (omega arith)
    (λ p n. fits k w s i b p)

-- ---- and is found again from its number

module _ (offset units : ℕ) (h : SliceFits (Ok (reaching offset units))) where
  units_again : slice_number (Ok (reaching offset units)) / 2 ^ 16 ≡ units
  units_again = omega arith

  offset_again : slice_number (Ok (reaching offset units)) % 2 ^ 16 ≡ offset
  offset_again = omega arith

abbrev again : Answer → SliceAnswer
again (Ok n) = Ok (reaching (n % 2 ^ 16) (n / 2 ^ 16))
again (Err err) = Err err

found : (a : SliceAnswer) → SliceFits a → again (answer_of a) ≡ a
found (Ok p) h = ap₂ {C = SliceAnswer} (λ o u. Ok (reaching o u)) (offset_again p.offset p.units h) (units_again p.offset p.units h)
found (Err err) h = refl

fits_answer : (a : SliceAnswer) → SliceFits a → Fits (2 ^ 32) (answer_of a)
fits_answer (Ok p) h = omega (arith, h.0, h.1)
fits_answer (Err err) h = h

one : (a b : SliceAnswer) → SliceFits a → SliceFits b → slice_number a ≡ slice_number b → a ≡ b
one a b h k e =
    sym (found a h)
    ∙ ap again (numbers_injective.plain.answer (answer_of a) (answer_of b) (fits_answer a h) (fits_answer b k) e)
    ∙ found b k

refusal : (a : SliceAnswer) → SliceFits a → is_reached a ≡ ltb (slice_number a) (2 ^ 32)
refusal (Ok p) h = numbers_injective.plain.refusal (answer_of (Ok p)) (fits_answer (Ok p) h)
refusal (Err err) h = numbers_injective.plain.refusal (answer_of (Err err)) h

pub slice_numbers_injective : SliceNumbersInjective
slice_numbers_injective = record { answer = one; refusal = refusal; units = units_again; offset = offset_again }
