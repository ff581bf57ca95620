use Rattle.std.proofs.Common.{◌∙◌, ◌-◌, ap, rules}
use Rattle.word.specs.Word.{minus, rotl}
use Rattle.halves.proofs.Places.{five_combined}
use Rattle.division.proofs.unrotated.Goals as goal

pub returns : goal.returns
returns g c =
    let a = c.args in
    let w = g.U.Unsigned.width in
    rw g.met.U.Width.same_width
    (c.wrapping_sub.ensures
    ∙ ap (λ x. minus w x a.k)
    (c.rotate_right.ensures.value
    ∙ ap (rotl w (w - a.r))
    (five_combined a.z a.p (search rules) c.requires.numbers
    c.index-z-p.result c.index-z-p-2.result c.index-z-p-3.result c.index-z-p-4.result c.index-z-p-5.result (search rules)
    c.bitxor.ensures c.bitxor-2.ensures c.bitxor-3.ensures c.bitxor-xor.ensures)))
