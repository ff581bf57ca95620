use Rattle.quasigroup.specs.Division.{left_division}
use Rattle.division.proofs.left.divide.Goals as goal

pub returns : goal.returns
unfolding left_division
returns g c = cc
