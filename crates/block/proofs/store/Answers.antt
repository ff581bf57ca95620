use Rattle.std.proofs.Common.{rules}
use Rattle.pipe.proofs.Call.{stored}
use Rattle.block.proofs.store.Goals as goal

pub returns : goal.returns
returns g c =
    let p = c.p.inside in
    rw (← c.p.view_is, c.BYTES.ensures)
    (stored g.U.LentWord.BYTES p.first p.second c.args.b.now (search rules) (search rules) (search rules)
    c.store_vector.ensures.out_after (rw c.BYTES.ensures at c.store_vector-2.ensures.out_after))
