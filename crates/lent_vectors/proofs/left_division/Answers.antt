use Rattle.quasigroup.specs.Division.{left_division}
use Rattle.quasigroup.proofs.Quasigroup.{left_from_halves}
use Rattle.operands.proofs.Stored.{stored}
use Rattle.lent_vectors.proofs.left_division.Goals as goal

pub returns : goal.returns
returns g c =
    let p = c.args in
    let s = g.U.Width.tables in
    stored left_division s g.U.Unsigned.width g.U.LentWord.BYTES g.met.U.Width.of_width g.met.U.LentWord.bits_of_bytes p.a.now p.b.now p.out.now
    c.load_vector.ensures.value c.load_vector-2.ensures.value
    (left_from_halves s c.load_vector.result c.load_vector-2.result c.left_half-g.ensures c.separated-z.ensures c.right_undone.ensures)
    c.store_vector.ensures.out_after
