use Rattle.quasigroup.specs.Division.{unright}
use Rattle.division.proofs.right_undone.Goals as goal

pub returns : goal.returns
unfolding unright
returns g c = cc
