use mathlib.Core.Path.{◌≡◌}
use mathlib.Core.Bool.{true}
use Prim.Native.Nat.{◌-◌, ◌*◌, ◌≤◌}
use lib.ListN.{length}
use Rattle.quasigroup.specs.Tables.{known_width}
use Rattle.sheet.specs.Read.{place_count}
use Rattle.sheet.specs.Sheet.{scan_from}
use Rattle.invertible.specs.RoundTrip.{Forward}
use Rattle.sheet.specs.Run.{steps, vectors_in}
use Rattle.interpreter.proofs.forward.Given as goal

abbrev pub invariant-loop-d : goal.invariant-loop-d
invariant-loop-d l =
    (known_width l.width ≡ true) × (length l.vectors ≡ place_count * l.width) × (length l.vectors ≡ length l.initial.vectors) × (l.at ≤ length l.sheet)
    × (steps Forward l.width l.sheet (scan_from (length l.sheet) l.width l.sheet l.at).offsets (vectors_in l.width l.vectors)
    ≡ steps Forward l.width l.sheet (scan_from (length l.sheet) l.width l.sheet 0).offsets (vectors_in l.width l.initial.vectors))

abbrev pub decreases-loop-d : goal.decreases-loop-d
decreases-loop-d l = length l.sheet - l.at
