use Rattle.std.proofs.Common.{rules}
use Rattle.digest.proofs.Buffer.{held_two}
use Rattle.hash.proofs.hold.Goals as goal

pub returns : goal.returns
returns g c =
    let a = c.args in
    held_two g.row.BLOCK a.a.now a.b.now (search rules) c.copy_at.ensures c.copy_at-2.ensures
