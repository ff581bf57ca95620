use Rattle.std.proofs.Common.{rules}
use Rattle.halves.proofs.Places.{three_combined}
use Rattle.half.proofs.combination.Goals as goal

pub returns : goal.returns
returns g c =
    three_combined c.args.t c.args.p (search rules) c.requires c.index-t-p.result c.index-t-p-2.result c.index-t-p-3.result (search rules)
    c.bitxor.ensures c.bitxor-2.ensures
