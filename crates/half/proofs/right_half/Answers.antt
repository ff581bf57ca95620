use Rattle.quasigroup.specs.Product.{right_half}
use Rattle.half.proofs.right_half.Goals as goal

pub returns : goal.returns
unfolding right_half
returns g c = cc
