use Rattle.tile.proofs.Copy.{begin, next}
use Rattle.tile.proofs.copy_strided.Goals as goal

pub loop-j-init : goal.loop-j-init
loop-j-init c = begin c.requires.0 c.requires.1

pub loop-j-preserved : goal.loop-j-preserved
loop-j-preserved c = next c.loop-j.invariant c.loop-j-test.true
