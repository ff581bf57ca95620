use Rattle.encoder.proofs.Written.{then_one}
use Rattle.encoder.proofs.put_places.Goals as goal

pub returns : goal.returns
returns c =
    let a = c.args in
    then_one a.out.now a.at a.opcode a.p.d c.put_place.ensures a.p.s
