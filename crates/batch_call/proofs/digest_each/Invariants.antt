use Rattle.batch.proofs.Progress.{Progress}
use Rattle.batch_call.proofs.digest_each.Given as goal

abbrev pub invariant-loop-k : goal.invariant-loop-k
invariant-loop-k l = Progress l.size l.joined l.lengths l.initial.out l.from l.k l.out
