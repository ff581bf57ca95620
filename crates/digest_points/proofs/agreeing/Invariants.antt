use Rattle.std.proofs.Common.{◌≤◌}
use Rattle.digest_points.proofs.agreeing.Given as goal

abbrev pub invariant-loop-i : goal.invariant-loop-i
invariant-loop-i l = l.n ≤ l.i
