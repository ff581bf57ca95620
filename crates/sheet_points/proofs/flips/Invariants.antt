use Rattle.std.proofs.Common.{◌≡◌, length}
use Rattle.sheet_points.proofs.flips.Given as goal

abbrev pub invariant-loop-i : goal.invariant-loop-i
invariant-loop-i l = length l.sheet ≡ 4096
