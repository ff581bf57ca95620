use borrow.Author.Rules.{rules}
use Rattle.tile.proofs.Interleaved.{interleaving_all}
use Rattle.tile.proofs.interleave.Goals as goal

pub returns : goal.returns
returns c = interleaving_all c.args.x c.loop-n.invariant (search rules)
