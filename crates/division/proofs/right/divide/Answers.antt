use Rattle.quasigroup.specs.Division.{right_division}
use Rattle.division.proofs.right.divide.Goals as goal

pub returns : goal.returns
unfolding right_division
returns g c = cc
