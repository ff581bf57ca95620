use mathlib.Core.Path.{ap, ◌∙◌}
use Rattle.std.specs.Prelude.{Err}
use Rattle.answer.specs.declared.Refused.{Refused}
use Rattle.slicer.proofs.Sliced.{width_refused}
use Rattle.slicer.proofs.run_slice.Goals as goal

pub returns : goal.returns
returns c =
    let a = c.args in
    let both = width_refused a.budget a.width a.sheet.now a.offset a.vectors.now c.if-width-eq32.false c.if-width-eq64.false in
    record {
      value = ap (λ (e : Refused). Err e) c.from.ensures ∙ both.0;
      vectors_after = both.1;
    }
