-- A slice's answer and the bytes after it, by the tests in their order.
use Rattle.std.specs.Prelude.{Ok}
use mathlib.Core.Path.{◌≡◌, refl, ap, sym, subst, ◌∙◌}
use mathlib.Core.Bool.{true, false}
use mathlib.Core.List.{List}
use Prim.Native.Nat.{ℕ, ◌*◌, ◌≤◌}
use native.Mathlib.Omega.{arith}
use borrow.Author.Tests.{eqb-true}
use lib.Dec.{eqb}
use lib.ListN.{length}
use Rattle.answer.specs.Answer.{Answer, refused_at}
use Rattle.answer.specs.declared.Refusal.{Refusal}
use Rattle.answer.specs.declared.Refusal.TheVariants.{Width, Operand}
use Rattle.answer.specs.Refuse.{is_done, outcome}
use Rattle.invertible.specs.RoundTrip.{Forward}
use Rattle.memory.specs.Bytes.{Bytes}
use Rattle.quasigroup.specs.Tables.{known_width}
use Rattle.quasigroup.proofs.Widths.{bytewise}
use Rattle.sheet.specs.Read.{place_count}
use Rattle.sheet.specs.Sheet as Plans
use Rattle.sheet.specs.Sheet.{Outcome, plan_of}
use Rattle.sheet.specs.SheetAnswer.{unless_sound, sheet_answer_among}
use Rattle.sheet.specs.Work.{total_units, summed, summary, found_answer}
use Rattle.sheet.specs.Run.{vectors_in, vector_bytes, run_answer}
use Rattle.sheet.specs.Progress.{RunState, run_state, starting_at, state_after}
use Rattle.sheet.specs.Start.{is_start, then_start}
use Rattle.sheet.proofs.Lent.{bytes_vectors}
use Rattle.sheet.proofs.Checked.{sound_short}
use Rattle.sheet.proofs.Counting.{runs_count}
use Rattle.sheet.proofs.Start.{suffix}
use Rattle.sheet.proofs.Ran as Ran
use Rattle.slice.specs.SliceAnswer.{SliceAnswer, reaching}
use Rattle.slice.specs.Slice.{sliced, slice_tests, reached_by, slice_answer, slice_bytes}
use Rattle.slice.proofs.Tests.{SlicePassed, tests_passed, start_done}
use Rattle.slice.proofs.Exact.{sliced_after}
use Rattle.slice.proofs.Injective.{fits}

found_by : (w : ℕ) (s l : List ℕ) (o : Outcome) → found_answer (summed w s l o) ≡ unless_sound o (Ok (total_units w s l))
found_by w s l Plans.Sound = refl
found_by w s l (Plans.Faulty r i) = refl

module _ (c w : ℕ) (s : List ℕ) (i : ℕ) (b : List ℕ) where
  abbrev Ends : SliceAnswer → List ℕ → Type 0
  Ends a last = (a ≡ slice_answer c w s i b) × (last ≡ slice_bytes c w s i b)

  -- by what the tests answer
  ends : {a : Answer} → a ≡ slice_tests w s i b
      → Ends (reached_by a (sliced c w s i (vectors_in w b))) (outcome a (vector_bytes w (sliced c w s i (vectors_in w b)).vectors) b)
  ends e = (
    ap (λ (a : Answer). reached_by a (sliced c w s i (vectors_in w b))) e,
    ap (λ (a : Answer). outcome a (vector_bytes w (sliced c w s i (vectors_in w b)).vectors) b) e,
  )

  pub width_refused : (w ≡ 32 → ⊥) → (w ≡ 64 → ⊥) → Ends (refused_at Width 0) b
  width_refused h k = ends (ap (then_start (is_start w s i)) (Ran.width_refused Forward w s b h k).0)

  module _ (k : known_width w ≡ true) where
    pub size_refused : eqb (length b) (place_count * w) ≡ false → Ends (refused_at Operand 0) b
    size_refused h = ends (ap (then_start (is_start w s i)) (Ran.size_refused Forward w s b k h).0)

    -- code found the answer a to the tests of the sheet and the start
    module _ (h : eqb (length b) (place_count * w) ≡ true) {a : Answer} (e : a ≡ then_start (is_start w s i) (found_answer (summary w s (plan_of w s)))) where
      found_run : found_answer (summary w s (plan_of w s)) ≡ run_answer w s b
      unfolding sheet_answer_among
      found_run = rw (k, h) (found_by w s (plan_of w s).offsets (plan_of w s).outcome)

      tested : a ≡ slice_tests w s i b
      tested = e ∙ ap (then_start (is_start w s i)) found_run

      pub start_refused : (r : Refusal) (at : ℕ) → a ≡ refused_at r at → Ends (refused_at r at) b
      start_refused r at f = ends (sym f ∙ tested)

      module _ {n : ℕ} (f : a ≡ Ok n) where
        passed : SlicePassed w s i b
        passed = tests_passed w s b i (sym (ap is_done (sym f ∙ tested)))

        whole : run_answer w s b ≡ Ok n
        whole = start_done (is_start w s i) (run_answer w s b) n (sym tested ∙ f)

        module _ (last : List ℕ) {o u : ℕ} (v : run_state o u (vectors_in w last) ≡ state_after c w s (starting_at i (vectors_in w b))) where
          there : run_state o u (vectors_in w last) ≡ sliced c w s i (vectors_in w b)
          there = v ∙ sym (sliced_after c w s i (vectors_in w b))

          -- what was reached, and the start; the units, and those of the whole sheet: a program that tells the one for the other is refused for what it
          -- tells, and not because that has too many bits
          pub offsets_fit : (o ≤ 4096) × (i ≤ 4096)
          offsets_fit =
              let short = sound_short w s passed.run.sound in (
                subst (λ (p : RunState). p.offset ≤ 4096) (sym there) (fits c w s i b passed).0,
                omega (arith, (suffix w s passed.run.sound i passed.start).within),
              )

          pub units_fit : (u ≤ 1365) × (n ≤ 1365)
          units_fit = (subst (λ (p : RunState). p.units ≤ 1365) (sym there) (fits c w s i b passed).1, (runs_count Forward w s b n whole).most)

          pub slice_ran : Bytes last → length last ≡ length b → Ends (Ok (reaching o u)) last
          slice_ran hl el =
              let d = ends (sym f ∙ tested) in
              let size = el ∙ eqb-true (length b) (place_count * w) h in (
                ap (λ (p : RunState). Ok (reaching p.offset p.units)) there ∙ d.0,
                sym (bytes_vectors w (bytewise w k) last hl place_count size) ∙ ap (λ (p : RunState). vector_bytes w p.vectors) there ∙ d.1,
              )
