-- The answer by the tests in their order, and what a success knows of its arguments.
use Rattle.std.specs.Prelude.{Ok}
use mathlib.Core.Path.{◌≡◌, sym, ap, ◌∙◌}
use mathlib.Core.Bool.{true, false, ◌&&◌}
use mathlib.Core.List.{List}
use Prim.Native.Nat.{ℕ, ◌≤◌, ◌<◌}
use borrow.Author.Tests.{eqb-true, leb-true, le-leb, lt-leb}
use lib.Dec.{eqb, leb}
use lib.ListN.{length}
use Rattle.answer.specs.Answer.{Answer, refused_at}
use Rattle.answer.specs.declared.Refusal.TheVariants.{Width, Operand, Output}
use Rattle.answer.specs.Refuse.{is_done}
use Rattle.answer.proofs.Tests.{both_true}
use Rattle.answer.proofs.Refuse.{unless_done}
use Rattle.quasigroup.specs.Tables.{known_width}
use Rattle.quasigroup.proofs.Widths.{other_width}
use Rattle.operands.specs.Operation.{answer_for}

module _ (w : ℕ) (x y out : List ℕ) where
  -- ---- the answer, from the tests

  pub unknown_refused : known_width w ≡ false → refused_at Width 0 ≡ answer_for w x y out
  unknown_refused k = sym (rw k)

  module _ (k : known_width w ≡ true) where
    pub operand_refused : (eqb (length x) w && eqb (length y) w) ≡ false → refused_at Operand 0 ≡ answer_for w x y out
    operand_refused h = sym (rw (k, h))

    module _ (fit : (eqb (length x) w && eqb (length y) w) ≡ true) where
      pub output_refused : length out < w → refused_at Output 0 ≡ answer_for w x y out
      output_refused h = sym (rw (k, fit, lt-leb _ _ h))

      pub accepted : w ≤ length out → Ok w ≡ answer_for w x y out
      accepted h = sym (rw (k, fit, le-leb _ _ h))

  -- ---- what a success knows

  pub record Accepted : Type 0 where
    pub other : (w ≡ 32 → ⊥) → w ≡ 64
    pub first : length x ≡ w
    pub second : length y ≡ w
    pub room : w ≤ length out

  pub success : (r : Answer) → r ≡ answer_for w x y out → is_done r ≡ true → Accepted
  success r e d =
      let a = unless_done (known_width w) Width _ (ap is_done (sym e) ∙ d) in
      let b = unless_done (eqb (length x) w && eqb (length y) w) Operand _ a.1 in
      let c = unless_done (leb w (length out)) Output _ b.1 in
      let d = both_true (eqb (length x) w) (eqb (length y) w) b.0 in
      record {
        other = other_width w a.0;
        first = eqb-true (length x) w d.0;
        second = eqb-true (length y) w d.1;
        room = leb-true w (length out) c.0;
      }
