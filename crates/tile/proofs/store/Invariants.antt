use Rattle.tile.proofs.Copy.{RowsCopying}
use Rattle.tile.proofs.store.Given as goal

abbrev pub invariant-loop-n : goal.invariant-loop-n
invariant-loop-n l = RowsCopying l.k l.q l.x 0 l.q l.initial.out l.o l.e l.n l.out
