use Rattle.std.proofs.Common.{◌*◌, ap, rules}
use Rattle.digest.proofs.Written.{written_out}
use Rattle.block.proofs.write.Goals as goal

pub returns : goal.returns
returns g c =
    let a = c.args in
    let p = c.p.inside in
    rw (← c.p.view_is)
    (written_out g.U.LentWord.BYTES a.n p.first p.second (search rules) (search rules) (search rules) _ a.out.now
    (ap (λ n. 8 * n) c.BYTES-end.ensures) c.store_vector.ensures.out_after c.copy_at.ensures)
