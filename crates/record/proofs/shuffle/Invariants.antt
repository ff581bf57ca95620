use Prim.Native.Nat.{◌-◌}
use Rattle.record.proofs.Moved.{Moved, plain, across}
use Rattle.record.proofs.shuffle.Given as goal

abbrev pub invariant-loop-g : goal.invariant-loop-g
invariant-loop-g l = Moved l.k l.q (plain l.k) across l.s l.initial.out l.g l.out

abbrev pub decreases-loop-g : goal.decreases-loop-g
decreases-loop-g l = 64 - l.g
