use lib.ListN.{length}
use Prim.Native.Nat.{◌-◌, ◌≤◌}
use Rattle.scanner.proofs.Scanning.{Scanning}
use Rattle.scanner.proofs.scan.Given as goal

abbrev pub invariant-loop-d : goal.invariant-loop-d
invariant-loop-d l = (length l.sheet ≤ 4096) × Scanning l.width l.sheet l.start l.initial.offsets l.offsets l.count l.units l.at l.starts

abbrev pub decreases-loop-d : goal.decreases-loop-d
decreases-loop-d l = length l.sheet - l.at
