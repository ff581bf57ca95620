use Rattle.std.proofs.Common.{◌∙◌, ap, rules}
use Rattle.word.specs.Word.{inverse}
use Rattle.halves.proofs.Places.{eight_summed, two_fifths_is}
use Rattle.division.proofs.two_fifths.Goals as goal

pub returns : goal.returns
returns g c =
    let s = c.args.s in
    let w = g.U.Unsigned.width in
    rw g.met.U.Width.same_width
    (two_fifths_is w s
    (c.inverse.ensures ∙ ap (inverse w) c.from_u8.ensures)
    (eight_summed w s
    c.index-s-0.result c.index-s-1.result c.index-s-2.result c.index-s-3.result c.index-s-4.result c.index-s-5.result c.index-s-6.result c.index-s-7.result
    (search rules)
    c.wrapping_add.ensures c.wrapping_add-2.ensures c.wrapping_add-four.ensures c.wrapping_add-3.ensures c.wrapping_add-4.ensures c.wrapping_add-three.ensures
    c.wrapping_add-all.ensures)
    c.wrapping_mul-fifth.ensures c.wrapping_add-5.ensures)
