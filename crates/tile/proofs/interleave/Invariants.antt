use Rattle.tile.proofs.Interleaved.{Interleaving}
use Rattle.tile.proofs.interleave.Given as goal

abbrev pub invariant-loop-n : goal.invariant-loop-n
invariant-loop-n l = Interleaving l.x l.n l.r
