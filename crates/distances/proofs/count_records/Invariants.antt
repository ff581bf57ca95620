use mathlib.Core.Path.{◌≡◌}
use Prim.Native.Nat.{◌≤◌}
use lib.ListN.{length}
use Rattle.hamming.specs.Counts.{pair_count}
use Rattle.hamming.proofs.Counts.{Counting}
use Rattle.distances.proofs.count_records.Given as goal

abbrev pub invariant-loop-k : goal.invariant-loop-k
invariant-loop-k l = (length l.records ≤ 65536) × (l.n ≡ pair_count (length l.records)) × (l.n ≤ length l.initial.counts) × Counting l.records l.initial.counts l.k l.counts l.sum
