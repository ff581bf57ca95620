use mathlib.Core.Path.{◌≡◌}
use mathlib.Core.Bool.{true}
use Prim.Native.Nat.{◌-◌, ◌*◌, ◌≤◌}
use lib.ListN.{length}
use Rattle.quasigroup.specs.Tables.{known_width}
use Rattle.sheet.specs.Read.{place_count}
use Rattle.sheet.specs.Run.{vectors_in}
use Rattle.sheet.specs.Progress.{run_state, starting_at, state_after}
use Rattle.stepper.proofs.advance.Given as goal

abbrev pub invariant-loop-done : goal.invariant-loop-done
invariant-loop-done l =
    (known_width l.width ≡ true) × (length l.vectors ≡ place_count * l.width) × (length l.vectors ≡ length l.initial.vectors) × (l.units ≤ l.done)
    × (state_after (l.budget - l.done) l.width l.sheet (run_state l.offset l.units (vectors_in l.width l.vectors))
    ≡ state_after l.budget l.width l.sheet (starting_at l.start (vectors_in l.width l.initial.vectors)))
