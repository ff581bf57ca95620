use mathlib.Core.Path.{◌≡◌}
use Prim.Native.Nat.{◌-◌, ◌*◌, ◌≤◌}
use lib.ListN.{length}
use Rattle.text.proofs.Partly.{Partly}
use Rattle.distance_report.specs.Report.{lines}
use Rattle.distance_report.proofs.Lines.{rest}
use Rattle.distance_report.proofs.push_lines.Given as goal

abbrev pub invariant-loop-k : goal.invariant-loop-k
invariant-loop-k l = (length l.counts ≤ 1024) × (l.k ≤ length l.counts) × (l.next ≤ 42 * l.k) × (length l.out ≡ length l.initial.out) × Partly l.initial.out 0 (lines 1 l.counts) l.out l.next (rest l.counts l.k)
