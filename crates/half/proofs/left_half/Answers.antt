use Rattle.quasigroup.specs.Product.{left_half}
use Rattle.half.proofs.left_half.Goals as goal

pub returns : goal.returns
unfolding left_half
returns g c = cc
