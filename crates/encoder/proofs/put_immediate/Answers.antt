use Rattle.encoder.proofs.Written.{then_copied}
use Rattle.encoder.proofs.put_immediate.Goals as goal

pub returns : goal.returns
returns c =
    let a = c.args in
    then_copied a.out.now a.at a.opcode a.d c.put_place.ensures a.vector.now c.requires.1 c.copy_at.ensures
