use mathlib.Core.Path.{ap, ◌∙◌}
use borrow.Author.Rules.{rules}
use native.Mathlib.Omega.{arith}
use Rattle.shuffle.specs.Transposed.{transposed}
use Rattle.tile.proofs.Interleaved.{repeated_none, repeated_more}
use Rattle.tile.proofs.transpose.Goals as goal

pub loop-init : goal.loop-init
loop-init c = (search rules, c.requires, repeated_none c.args.x (search rules))

pub loop-preserved : goal.loop-preserved
loop-preserved c = (
  omega arith,
  c.loop.invariant.1,
  c.interleave-next.ensures ∙ ap (transposed 2 64) c.loop.invariant.2 ∙ repeated_more c.loop.counter c.args.x (omega (arith, c.loop.invariant.1, c.loop-test.true)),
)
