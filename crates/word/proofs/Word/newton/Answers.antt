use Rattle.word.proofs.Wrapping.{newton_words}
use Rattle.word.proofs.Word.newton.Goals as goal

pub returns : goal.returns
returns g c = cc (newton_words g.U.Unsigned.width c.args.self c.args.x)
