use Rattle.shuffle.specs.Shuffle.{unshuffled_record}
use Rattle.shuffler.proofs.Loop.{Progress}
use Rattle.shuffler.proofs.restore_records.Given as goal

abbrev pub invariant-loop-i : goal.invariant-loop-i
invariant-loop-i l = Progress unshuffled_record l.width l.records l.initial.out l.size l.count l.i l.out
