use mathlib.Core.Path.{◌≡◌}
use Prim.Native.Nat.{◌-◌, ◌*◌, ◌≤◌}
use lib.ListN.{length}
use Rattle.text.proofs.Partly.{Partly}
use Rattle.listing.proofs.Lines.{rest}
use Rattle.listing.proofs.push_lines.Given as goal

abbrev pub invariant-loop-d : goal.invariant-loop-d
invariant-loop-d l =
    (length l.sheet ≤ 4096) × (l.at ≤ length l.sheet) × (l.next ≤ 34 * l.at) × (length l.out ≡ length l.initial.out)
    × Partly l.initial.out 0 (rest l.width l.sheet 0) l.out l.next (rest l.width l.sheet l.at)

abbrev pub decreases-loop-d : goal.decreases-loop-d
decreases-loop-d l = length l.sheet - l.at
