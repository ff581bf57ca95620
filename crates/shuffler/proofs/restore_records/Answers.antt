use Rattle.shuffle.proofs.Widths.{unshuffled_keeps}
use Rattle.shuffler.proofs.Loop.{next}
use Rattle.shuffler.proofs.restore_records.Goals as goal

pub loop-i-preserved : goal.loop-i-preserved
loop-i-preserved c = next unshuffled_keeps c.loop-i.invariant c.loop-i-test.true _ c.restore_record.ensures
