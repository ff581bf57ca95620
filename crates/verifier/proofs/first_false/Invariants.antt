use Prim.Native.Nat.{◌-◌}
use mathlib.Core.Path.{◌≡◌}
use lib.ListN.{length}
use Rattle.verifier.proofs.Loop.{Replayed}
use Rattle.verifier.proofs.first_false.Given as goal

abbrev pub invariant-loop-from : goal.invariant-loop-from
invariant-loop-from l = (length l.state ≡ length l.initial.state) × Replayed l.width l.sheet l.initial.state l.records l.size l.number l.offset l.from l.state

abbrev pub decreases-loop-from : goal.decreases-loop-from
decreases-loop-from l = length l.records - l.from
