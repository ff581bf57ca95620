use Rattle.quasigroup.specs.Product.{product}
use Rattle.product.proofs.product.Goals as goal

pub returns : goal.returns
unfolding product
returns g c = cc
