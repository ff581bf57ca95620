use Rattle.quasigroup.specs.Product.{product}
use Rattle.quasigroup.proofs.Quasigroup.{from_halves}
use Rattle.operands.proofs.Stored.{stored}
use Rattle.lent_vectors.proofs.product.Goals as goal

pub returns : goal.returns
returns g c =
    let a = c.args in
    let s = g.U.Width.tables in
    stored product s g.U.Unsigned.width g.U.LentWord.BYTES g.met.U.Width.of_width g.met.U.LentWord.bits_of_bytes a.x.now a.y.now a.out.now
    c.load_vector.ensures.value c.load_vector-2.ensures.value
    (from_halves s c.load_vector.result c.load_vector-2.result c.left_half-left.ensures c.right_half-right.ensures c.joined.ensures)
    c.store_vector.ensures.out_after
