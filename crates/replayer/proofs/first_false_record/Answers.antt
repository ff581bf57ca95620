use mathlib.Core.Path.{ap, ◌∙◌}
use Rattle.std.specs.Prelude.{Err}
use Rattle.answer.specs.declared.Refused.{Refused}
use Rattle.replayer.proofs.Tested.{width_refused}
use Rattle.replayer.proofs.first_false_record.Goals as goal

pub returns : goal.returns
returns c =
    let a = c.args in
    ap (λ (e : Refused). Err e) c.from.ensures
    ∙ width_refused a.width a.sheet.now a.vectors.now a.records.now c.if-width-eq32.false c.if-width-eq64.false
