use mathlib.Core.Path.{refl}
use native.Mathlib.Omega.{arith}
use Rattle.tile.specs.Copy.{zeros}
use Rattle.tile.proofs.Copy.{fill_begin, rows_next}
use Rattle.tile.proofs.load.Goals as goal

pub loop-n-init : goal.loop-n-init
unfolding zeros
loop-n-init c = fill_begin c.requires.0 c.requires.1

pub loop-n-preserved : goal.loop-n-preserved
loop-n-preserved c = rows_next c.loop-n.invariant c.loop-n-test.true _ _ refl (omega arith) _ c.copy_strided.ensures
