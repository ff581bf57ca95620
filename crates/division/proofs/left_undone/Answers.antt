use Rattle.quasigroup.specs.Division.{unleft}
use Rattle.division.proofs.left_undone.Goals as goal

pub returns : goal.returns
unfolding unleft
returns g c = cc
