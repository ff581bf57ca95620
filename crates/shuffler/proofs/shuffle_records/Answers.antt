use Rattle.shuffle.proofs.Widths.{shuffled_keeps}
use Rattle.shuffler.proofs.Loop.{next}
use Rattle.shuffler.proofs.shuffle_records.Goals as goal

pub loop-i-preserved : goal.loop-i-preserved
loop-i-preserved c = next shuffled_keeps c.loop-i.invariant c.loop-i-test.true _ c.shuffle_record.ensures
