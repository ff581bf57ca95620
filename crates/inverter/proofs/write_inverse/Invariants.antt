use Prim.Native.Nat.{◌-◌}
use lib.ListN.{length}
use Rattle.inverse.specs.Encoding.{Accepted}
use Rattle.inverter.proofs.Inverting.{Inverting}
use Rattle.inverter.proofs.write_inverse.Given as goal

abbrev pub invariant-loop-d : goal.invariant-loop-d
invariant-loop-d l = Accepted l.width l.sheet × Inverting l.width l.sheet l.initial.out l.out l.at

abbrev pub decreases-loop-d : goal.decreases-loop-d
decreases-loop-d l = length l.sheet - l.at
