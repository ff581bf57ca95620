use Rattle.quasigroup.proofs.Barred.{from_barred, barred_left_from_halves}
use Rattle.pipe.proofs.Backward.{solved}
use Rattle.compression.proofs.backward.Goals as goal

pub returns : goal.returns
returns g c =
    let a = c.args in
    let s = g.U.Width.tables in
    let p = c.p.inside in
    rw (← c.p.view_is)
    (solved s (record { first = p.first; second = p.second }) a.x a.y
    (from_barred s a.y a.x c.barred_product-d1.ensures) c.product-d2.ensures
    (barred_left_from_halves s a.x p.first c.barred_left_half.ensures c.separated.ensures
    c.right_undone-d5.ensures)
    c.divide-d6.ensures c.divide-d4.ensures c.divide-d3.ensures c.divide-c0.ensures c.divide-c1.ensures)
