use Rattle.word.proofs.Wrapping.{five_steps}
use Rattle.word.proofs.Word.inverse.Goals as goal

pub returns : goal.returns
returns g c =
    let laws = g.met.U.Unsigned in
    five_steps g.U.Unsigned.width c.args.self laws.some_bits laws.most_bits c.requires
    c.newton.ensures c.newton-2.ensures c.newton-3.ensures c.newton-4.ensures c.newton-5.ensures
