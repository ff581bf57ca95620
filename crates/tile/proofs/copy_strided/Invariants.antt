use Rattle.tile.proofs.Copy.{Copying}
use Rattle.tile.proofs.copy_strided.Given as goal

abbrev pub invariant-loop-j : goal.invariant-loop-j
invariant-loop-j l = Copying l.k l.s l.i l.d l.initial.out l.o l.e l.j l.out
