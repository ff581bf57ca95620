use Rattle.std.proofs.Common.{◌∙◌, ap, rules}
use Rattle.word.specs.Word.{rotl}
use Rattle.halves.proofs.Places.{five_summed}
use Rattle.half.proofs.rotated_sum.Goals as goal

pub returns : goal.returns
returns g c =
    let a = c.args in
    let w = g.U.Unsigned.width in
    rw g.met.U.Width.same_width
    (c.rotate_left.ensures.value
    ∙ ap (rotl w a.r)
    (five_summed a.v a.p (search rules) c.requires.numbers w a.k
    c.index-v-p.result c.index-v-p-2.result c.index-v-p-3.result c.index-v-p-4.result c.index-v-p-5.result (search rules)
    c.wrapping_add.ensures c.wrapping_add-2.ensures c.wrapping_add-3.ensures c.wrapping_add-rest.ensures c.wrapping_add-4.ensures))
