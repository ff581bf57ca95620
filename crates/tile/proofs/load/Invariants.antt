use Rattle.tile.proofs.Copy.{Filling}
use Rattle.tile.proofs.load.Given as goal

abbrev pub invariant-loop-n : goal.invariant-loop-n
invariant-loop-n l = Filling l.k l.q l.s l.i l.d l.n l.r
