use mathlib.Core.Path.{ap, ◌∙◌}
use Rattle.std.specs.Prelude.{Err}
use Rattle.answer.specs.declared.Refused.{Refused}
use Rattle.invertible.specs.RoundTrip.{Forward}
use Rattle.sheet.proofs.Ran.{width_refused}
use Rattle.run.proofs.run_forward.Goals as goal

pub returns : goal.returns
returns c =
    let a = c.args in
    let both = width_refused Forward a.width a.sheet.now a.vectors.now c.if-width-eq32.false c.if-width-eq64.false in
    record {
      value = ap (λ (e : Refused). Err e) c.from.ensures ∙ both.0;
      vectors_after = both.1;
    }
