use Rattle.digest.proofs.Step.{by_halves}
use Rattle.compression.proofs.forward.Goals as goal

pub returns : goal.returns
returns g c =
    let a = c.args in
    let p = c.p.inside in
    rw (← c.p.view_is)
    (by_halves g.U.Width.tables p.second p.first a.x a.y
    c.barred_left_half.ensures c.right_half.ensures c.joined-d1.ensures
    c.left_half.ensures c.right_half-2.ensures c.joined-d2.ensures
    c.left_half-2.ensures c.right_half-3.ensures c.joined-d3.ensures
    c.left_half-left.ensures c.right_half-4.ensures c.joined-d4.ensures
    c.right_half-5.ensures c.joined-d5.ensures
    c.right_half-right.ensures c.left_half-3.ensures c.joined-d6.ensures
    c.barred_left_half-2.ensures c.joined-d7.ensures
    c.left_half-4.ensures c.right_half-6.ensures c.joined-d8.ensures)
