use Rattle.std.proofs.Common.{rules}
use Rattle.quasigroup.specs.Tables.{left_sums}
use Rattle.halves.proofs.Places.{eight_sums}
use Rattle.half.proofs.left_sums.Goals as goal

pub returns : goal.returns
returns g c =
    let t = g.U.Width.tables in
    eight_sums t.bits t.left_constant t.left_amounts left_sums c.args.v (search rules)
    c.left_amounts-r.ensures.value c.left_constant-k.ensures c.from_u8-zero.ensures
    c.rotated_sum.ensures
    c.rotated_sum-2.ensures
    c.rotated_sum-3.ensures
    c.rotated_sum-4.ensures
    c.rotated_sum-5.ensures
    c.rotated_sum-6.ensures
    c.rotated_sum-7.ensures
    c.rotated_sum-8.ensures
