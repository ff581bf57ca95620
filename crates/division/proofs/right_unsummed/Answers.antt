use Rattle.std.proofs.Common.{◌∙◌, rules}
use Rattle.memory.proofs.Eight.{eight}
use Rattle.halves.proofs.Balance.{unsummed, right_rows}
use Rattle.division.proofs.right_unsummed.Goals as goal

pub returns : goal.returns
returns g c =
    eight
    c.less_three.ensures
    c.less_three-2.ensures
    c.less_three-3.ensures
    c.less_three-4.ensures
    c.less_three-5.ensures
    c.less_three-6.ensures
    c.less_three-7.ensures
    c.less_three-8.ensures
    ∙ unsummed g.U.Width.tables.bits c.args.s (search rules) right_rows _ c.two_fifths-u.ensures
