use Prim.Native.Nat.{◌*◌}
use Rattle.comparison.proofs.Chunks.{Compared}
use Rattle.comparison.proofs.record_holds.Given as goal

abbrev pub invariant-loop-k : goal.invariant-loop-k
invariant-loop-k l = Compared l.width l.records l.from l.state l.bits (64 * l.k)
