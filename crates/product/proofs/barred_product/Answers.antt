use Rattle.quasigroup.specs.Barred.{barred_product}
use Rattle.product.proofs.barred_product.Goals as goal

pub returns : goal.returns
unfolding barred_product
returns g c = cc
