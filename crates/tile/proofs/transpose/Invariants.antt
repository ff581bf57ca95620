use mathlib.Core.Path.{◌≡◌}
use Prim.Native.Nat.{◌≤◌}
use Rattle.tile.proofs.Interleaved.{repeated}
use Rattle.tile.proofs.transpose.Given as goal

abbrev pub invariant-loop : goal.invariant-loop
invariant-loop l = (l.counter ≤ l.times) × (l.times ≤ 7) × (l.r ≡ repeated l.counter l.initial.r)
