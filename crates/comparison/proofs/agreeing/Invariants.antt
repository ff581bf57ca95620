use Rattle.comparison.proofs.Search.{Agreed}
use Rattle.comparison.proofs.agreeing.Given as goal

abbrev pub invariant-loop-i : goal.invariant-loop-i
invariant-loop-i l = Agreed l.width l.records l.from l.state l.i
