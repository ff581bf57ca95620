use Rattle.std.proofs.Common.{◌∙◌}
use Rattle.invertible.specs.RoundTrip.{Forward}
use Rattle.digest.specs.Step.{step}
use Rattle.pipe.proofs.Call.{by_loaded}
use Rattle.block.proofs.step.Goals as goal

pub returns : goal.returns
unfolding step
returns g c =
    let a = c.args in
    by_loaded g.U.Width.tables Forward a.p a.m.now (c.b.view_is ∙ c.load-b.ensures) c.forward.ensures
