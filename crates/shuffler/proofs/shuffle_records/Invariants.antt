use Rattle.shuffle.specs.Shuffle.{shuffled_record}
use Rattle.shuffler.proofs.Loop.{Progress}
use Rattle.shuffler.proofs.shuffle_records.Given as goal

abbrev pub invariant-loop-i : goal.invariant-loop-i
invariant-loop-i l = Progress shuffled_record l.width l.records l.initial.out l.n l.count l.i l.out
