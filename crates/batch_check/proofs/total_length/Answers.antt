use native.Mathlib.Omega.{arith}
use Rattle.batch.proofs.Sums.{none_added, one_added, all_added, not_added}
use Rattle.batch_check.proofs.total_length.Goals as goal

pub returns-then-lengths-gt-MOST : goal.returns-then-lengths-gt-MOST
returns-then-lengths-gt-MOST c = not_added c.args.lengths.now c.if-lengths-gt-MOST.true

pub loop-length-init : goal.loop-length-init
loop-length-init c = none_added c.args.lengths.now c.if-lengths-gt-MOST.false

pub overflow_cast-sum : goal.overflow_cast-sum
overflow_cast-sum c = omega (arith, c.type_inv.lengths c.loop-length.length-index)

pub overflow_add-sum : goal.overflow_add-sum
overflow_add-sum c = omega (arith, c.type_inv.lengths c.loop-length.length-index, c.loop-length.invariant.small, c.loop-length.invariant.few, c.loop-length-test.true)

pub loop-length-preserved : goal.loop-length-preserved
loop-length-preserved c = one_added c.loop-length.invariant c.loop-length-test.true (omega (arith, c.type_inv.lengths c.loop-length.length-index))

pub returns : goal.returns
returns c = all_added c.loop-length.invariant c.loop-length-test.false
