-- What one slice does, and two after each other.
use Rattle.std.specs.Prelude.{Ok, Err}
use mathlib.Core.Path.{◌≡◌, refl, sym, ap, ◌∙◌}
use mathlib.Core.Bool.{true}
use mathlib.Core.List.{List, []}
use Prim.Native.Nat.{ℕ, ◌+◌, min}
use native.Mathlib.Nat.{zero-add, min-zero}
use native.Mathlib.Omega.{arith}
use lib.ListN.{length}
use Rattle.answer.specs.Answer.{Answer, refused_at}
use Rattle.answer.specs.Refuse.{is_done, outcome}
use Rattle.memory.specs.Bytes.{Bytes}
use Rattle.quasigroup.proofs.Widths.{bytewise}
use Rattle.sheet.specs.Read.{place_count}
use Rattle.sheet.specs.Run.{vectors_in, vector_bytes}
use Rattle.sheet.specs.Progress.{RunState, starting_at, state_after, remaining}
use Rattle.sheet.proofs.Lent.{bytes_vectors}
use Rattle.sheet.proofs.Scan.{read_end}
use Rattle.sheet.proofs.Progress.{as_many, after_after, after_from, done, reaches, remaining_end}
use Rattle.sheet.proofs.Start.{suffix}
use Rattle.slice.specs.SliceAnswer.{reaching}
use Rattle.slice.specs.Slice.{sliced, slice_tests, reached_by}
use Rattle.slice.specs.Exact.{SlicesExact, Still, StandsStill, joined, SlicesCompose}
use Rattle.slice.proofs.Tests.{SlicePassed, tests_passed}

-- those that remain are enough for any budget
pub sliced_after : (k w : ℕ) (s : List ℕ) (i : ℕ) (v : List (List ℕ)) → sliced k w s i v ≡ state_after k w s (starting_at i v)
sliced_after k w s i v = as_many w s k (starting_at i v)

pub slices_exact : SlicesExact
slices_exact k w s i v sound start =
    let from = suffix w s sound i start in
    let all = sliced_after k w s i v in
    let ran = done w s k (starting_at i v) in
    record {
      last = (from.before, from.offsets);
      vectors = ap (λ (p : RunState). p.vectors) all ∙ ran.vectors;
      units = ap (λ (p : RunState). p.units) all ∙ ran.units ∙ zero-add _;
      offset = ap (λ (p : RunState). p.offset) all ∙ reaches w s k (starting_at i v) (from.outcome ∙ sound) from.within;
    }

-- ---- nothing to do

reached_done : (a : Answer) → is_done a ≡ true → (p : RunState) → reached_by a p ≡ Ok (reaching p.offset p.units)
reached_done (Ok n) e p = refl
reached_done (Err err) e p = let z : ◌≡◌ {A = ℕ} 0 1 = cc in absurd (omega arith)

outcome_same : (a : Answer) (new old : List ℕ) → new ≡ old → outcome a new old ≡ old
outcome_same (Ok n) new old e = e
outcome_same (Err err) new old e = refl

still : (k w : ℕ) (s : List ℕ) (i : ℕ) (b : List ℕ) → Bytes b → is_done (slice_tests w s i b) ≡ true → sliced k w s i (vectors_in w b) ≡ starting_at i (vectors_in w b)
    → Still k w s i b
still k w s i b hb d e =
    let p : SlicePassed w s i b = tests_passed w s b i d in
    record {
      answer = reached_done (slice_tests w s i b) d (sliced k w s i (vectors_in w b)) ∙ ap (λ (p : RunState). Ok (reaching p.offset p.units)) e;
      bytes =
          outcome_same (slice_tests w s i b) (vector_bytes w (sliced k w s i (vectors_in w b)).vectors) b
          (ap (λ (p : RunState). vector_bytes w p.vectors) e ∙ bytes_vectors w (bytewise w p.run.known) b hb place_count p.run.size);
    }

pub stands_still : StandsStill
stands_still =
    record {
      no_budget = λ w s i b hb d. still 0 w s i b hb d (sliced_after 0 w s i (vectors_in w b));
      at_end =
          λ k w s b hb d.
          let none : remaining w s (length s) ≡ [] = remaining_end w s (length s) (read_end place_count w s (length s) (omega arith)) in
          let zero : min k (length (remaining w s (length s))) ≡ 0 = ap (λ (l : List ℕ). min k (length l)) none ∙ min-zero k in
          still k w s (length s) b hb d (ap (λ (n : ℕ). state_after n w s (starting_at (length s) (vectors_in w b))) zero);
    }

-- ---- two slices

pub joined_after : (k w : ℕ) (s : List ℕ) (p : RunState) → joined p (sliced k w s p.offset p.vectors) ≡ state_after k w s p
joined_after k w s p = ap (joined p) (sliced_after k w s p.offset p.vectors) ∙ sym (after_from w s k p)

pub slices_compose : SlicesCompose
slices_compose j k w s i v =
    joined_after k w s (sliced j w s i v)
    ∙ ap (state_after k w s) (sliced_after j w s i v)
    ∙ after_after w s j k (starting_at i v)
    ∙ sym (sliced_after (j + k) w s i v)
