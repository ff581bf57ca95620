-- The answer to a step by the tests in their order, and what a success knows of its arguments.
use Rattle.std.specs.Prelude.{Ok}
use mathlib.Core.Path.{◌≡◌, sym, ap, ◌∙◌}
use mathlib.Core.Bool.{Bool, true, false, ◌&&◌}
use mathlib.Core.List.{List}
use Prim.Native.Nat.{ℕ, ◌*◌}
use borrow.Author.Tests.{eqb-true}
use lib.Dec.{eqb}
use lib.ListN.{length}
use Rattle.answer.specs.Answer.{Answer, refused_at}
use Rattle.answer.specs.declared.Refusal.TheVariants.{Width, Operand}
use Rattle.answer.specs.Refuse.{is_done}
use Rattle.answer.proofs.Tests.{both_true}
use Rattle.answer.proofs.Refuse.{unless_done}
use Rattle.quasigroup.specs.Tables.{known_width}
use Rattle.quasigroup.proofs.Widths.{other_width}
use Rattle.pipe.specs.Call.{step_answer}

module _ (w : ℕ) (m b : List ℕ) where
  abbrev fit : Bool
  fit = eqb (length b) (2 * w) && eqb (length m) (2 * w)

  -- ---- the answer, from the tests

  pub unknown_refused : known_width w ≡ false → refused_at Width 0 ≡ step_answer w m b
  unknown_refused k = sym (rw k)

  pub operand_refused : known_width w ≡ true → fit ≡ false → refused_at Operand 0 ≡ step_answer w m b
  operand_refused k h = sym (rw (k, h))

  pub accepted : known_width w ≡ true → fit ≡ true → Ok (2 * w) ≡ step_answer w m b
  accepted k h = sym (rw (k, h))

  -- ---- what a success knows

  pub record Accepted : Type 0 where
    pub other : (w ≡ 32 → ⊥) → w ≡ 64
    pub pipe : length b ≡ 2 * w
    pub block : length m ≡ 2 * w

  pub success : (r : Answer) → r ≡ step_answer w m b → is_done r ≡ true → Accepted
  success r e d =
      let k = unless_done (known_width w) Width _ (ap is_done (sym e) ∙ d) in
      let h = unless_done fit Operand (Ok (2 * w)) k.1 in
      let l = both_true (eqb (length b) (2 * w)) (eqb (length m) (2 * w)) h.0 in
      record { other = other_width w k.0; pipe = eqb-true (length b) (2 * w) l.0; block = eqb-true (length m) (2 * w) l.1 }
