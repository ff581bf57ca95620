use mathlib.Core.Path.{◌≡◌}
use Prim.Native.Nat.{◌+◌, ◌≤◌}
use lib.ListN.{length, drop}
use Rattle.text.proofs.Partly.{Partly}
use Rattle.text.proofs.push_text.Given as goal

abbrev pub invariant-loop-byte : goal.invariant-loop-byte
invariant-loop-byte l = (l.at + length l.text ≤ 1048576) × (l.byte-index ≤ length l.text) × (l.next ≡ l.at + l.byte-index) × (length l.out ≡ length l.initial.out) × Partly l.initial.out l.at l.text l.out l.next (drop l.byte-index l.text)
