use Rattle.std.proofs.Common.{rules}
use Rattle.halves.proofs.Places.{less_three}
use Rattle.division.proofs.less_three.Goals as goal

pub returns : goal.returns
returns g c =
    let a = c.args in
    rw g.met.U.Width.same_width
    (less_three g.U.Unsigned.width a.u a.n a.s c.index-s-n-3.result c.index-s-n-2.result c.index-s-n.result (search rules) c.requires (search rules)
    c.wrapping_sub.ensures c.wrapping_sub-2.ensures c.wrapping_sub-3.ensures)
