use Rattle.std.proofs.Common.{◌∙◌, rules}
use Rattle.memory.proofs.Eight.{eight}
use Rattle.halves.proofs.Balance.{unsummed, left_rows}
use Rattle.division.proofs.left_unsummed.Goals as goal

pub returns : goal.returns
returns g c =
    eight
    c.unsummed.ensures
    c.unsummed-2.ensures
    c.unsummed-3.ensures
    c.unsummed-4.ensures
    c.unsummed-5.ensures
    c.unsummed-6.ensures
    c.unsummed-7.ensures
    c.unsummed-8.ensures
    ∙ unsummed g.U.Width.tables.bits c.args.s (search rules) left_rows _ c.two_fifths-u.ensures
