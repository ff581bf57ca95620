use Rattle.quasigroup.specs.Barred.{barred_left_half}
use Rattle.half.proofs.barred_left_half.Goals as goal

pub returns : goal.returns
unfolding barred_left_half
returns g c = cc
