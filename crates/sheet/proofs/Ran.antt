-- A run's answer and the bytes after it, by the tests in their order.
use Rattle.std.specs.Prelude.{Ok}
use mathlib.Core.Path.{◌≡◌, ap, sym, ◌∙◌}
use mathlib.Core.Bool.{true, false}
use mathlib.Core.List.{List}
use Prim.Native.Nat.{ℕ, ◌*◌}
use borrow.Author.Tests.{eqb-true, ne_eqb}
use lib.Dec.{eqb}
use lib.ListN.{length}
use Rattle.answer.specs.Answer.{Answer, refused_at}
use Rattle.answer.specs.declared.Refusal.{Refusal}
use Rattle.answer.specs.declared.Refusal.TheVariants.{Width, Operand}
use Rattle.answer.specs.Refuse.{outcome}
use Rattle.memory.specs.Bytes.{Bytes}
use Rattle.quasigroup.specs.Tables.{known_width}
use Rattle.quasigroup.proofs.Widths.{bytewise}
use Rattle.sheet.specs.Work.{counts, summary}
use Rattle.sheet.specs.Read.{place_count}
use Rattle.sheet.specs.Sheet.{plan_of}
use Rattle.invertible.specs.RoundTrip.{Direction}
use Rattle.sheet.specs.Run.{run_vectors, vectors_in, vector_bytes, run_answer, run_bytes}
use Rattle.sheet.proofs.SheetAnswer as Tests
use Rattle.sheet.proofs.Checked.{checked, faulted}
use Rattle.sheet.proofs.Lent.{bytes_vectors}

module _ (g : Direction) (w : ℕ) (s b : List ℕ) where
  -- the answer says which bytes are left
  leaves : {a : Answer} → a ≡ run_answer w s b → outcome a (vector_bytes w (run_vectors g w s (vectors_in w b))) b ≡ run_bytes g w s b
  leaves e = ap (λ (a : Answer). outcome a (vector_bytes w (run_vectors g w s (vectors_in w b))) b) e

  pub width_refused : (w ≡ 32 → ⊥) → (w ≡ 64 → ⊥) → (refused_at Width 0 ≡ run_answer w s b) × (b ≡ run_bytes g w s b)
  width_refused h k = let e : refused_at Width 0 ≡ run_answer w s b = Tests.width_refused place_count w _ s _ (rw (ne_eqb w 32 h, ne_eqb w 64 k)) in (e, leaves e)

  module _ (k : known_width w ≡ true) where
    pub size_refused : eqb (length b) (place_count * w) ≡ false → (refused_at Operand 0 ≡ run_answer w s b) × (b ≡ run_bytes g w s b)
    size_refused h =
        let e : refused_at Operand 0 ≡ run_answer w s b = Tests.operand_refused place_count w _ s _ k h in (e, leaves e)

    module _ (h : eqb (length b) (place_count * w) ≡ true) where
      pub fault_refused : (r : Refusal) (i : ℕ) → refused_at r i ≡ summary w s (plan_of w s) → (refused_at r i ≡ run_answer w s b) × (b ≡ run_bytes g w s b)
      fault_refused r i f =
          let e : refused_at r i ≡ run_answer w s b = Tests.fault_refused place_count w _ s _ k h r i (faulted w s r i f) in (e, leaves e)

      pub ran : {n t : ℕ} (last : List ℕ) → Bytes last → length last ≡ length b → Ok (counts n t) ≡ summary w s (plan_of w s)
          → vectors_in w last ≡ run_vectors g w s (vectors_in w b) → (Ok t ≡ run_answer w s b) × (last ≡ run_bytes g w s b)
      ran last hl el f v =
          let c = checked w s f in
          let e = Tests.passes place_count w _ s _ (record { width = k; operands = h; sheet = c.sound }) in
          let size = el ∙ eqb-true (length b) (place_count * w) h in
          (ap Ok c.total ∙ e, sym (bytes_vectors w (bytewise w k) last hl place_count size) ∙ ap (vector_bytes w) v ∙ leaves e)
