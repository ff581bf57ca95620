use Rattle.batch.proofs.Sums.{Added}
use Rattle.batch_check.proofs.total_length.Given as goal

abbrev pub invariant-loop-length : goal.invariant-loop-length
invariant-loop-length l = Added l.lengths l.length-index l.sum
