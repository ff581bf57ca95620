use mathlib.Core.Path.{◌≡◌}
use mathlib.Core.Bool.{true}
use mathlib.Core.List.{reverse}
use Prim.Native.Nat.{◌-◌, ◌*◌, ◌≤◌}
use lib.ListN.{length, take}
use Rattle.quasigroup.specs.Tables.{known_width}
use Rattle.sheet.specs.Read.{place_count}
use Rattle.invertible.specs.RoundTrip.{Backward}
use Rattle.sheet.specs.Run.{steps, vectors_in}
use Rattle.interpreter.proofs.backward.Given as goal

abbrev pub invariant-loop-at : goal.invariant-loop-at
invariant-loop-at l =
    (known_width l.width ≡ true) × (length l.vectors ≡ place_count * l.width) × (length l.vectors ≡ length l.initial.vectors)
    × (steps Backward l.width l.sheet (reverse l.at-iterator.iter.rest.now) (vectors_in l.width l.vectors)
    ≡ steps Backward l.width l.sheet (reverse l.offsets) (vectors_in l.width l.initial.vectors))
