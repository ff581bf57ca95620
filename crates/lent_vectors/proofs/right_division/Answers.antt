use Rattle.quasigroup.specs.Division.{right_division}
use Rattle.quasigroup.proofs.Quasigroup.{right_from_halves}
use Rattle.operands.proofs.Stored.{stored}
use Rattle.lent_vectors.proofs.right_division.Goals as goal

pub returns : goal.returns
returns g c =
    let p = c.args in
    let s = g.U.Width.tables in
    stored right_division s g.U.Unsigned.width g.U.LentWord.BYTES g.met.U.Width.of_width g.met.U.LentWord.bits_of_bytes p.b.now p.a.now p.out.now
    c.load_vector-2.ensures.value c.load_vector.ensures.value
    (right_from_halves s c.load_vector-2.result c.load_vector.result c.right_half-h.ensures c.separated-z.ensures c.left_undone.ensures)
    c.store_vector.ensures.out_after
