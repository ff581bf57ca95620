use Rattle.std.proofs.Common.{rules}
use Rattle.halves.proofs.Places.{balanced}
use Rattle.division.proofs.unsummed.Goals as goal

pub returns : goal.returns
returns g c =
    let a = c.args in
    rw g.met.U.Width.same_width
    (balanced g.U.Unsigned.width a.u a.p a.n a.s
    c.index-s-n.result c.index-s-n-2.result c.index-s-n-3.result c.index-s-n-4.result c.index-s-n-5.result c.index-s-p.result c.index-s-p-2.result
    (search rules) c.requires.added c.requires.taken_away (search rules) (search rules)
    c.wrapping_sub.ensures c.wrapping_sub-2.ensures c.wrapping_sub-less.ensures c.wrapping_sub-3.ensures c.wrapping_sub-rest.ensures
    c.wrapping_add.ensures c.wrapping_add-2.ensures)
