use mathlib.Core.Path.{refl}
use native.Mathlib.Omega.{arith}
use Rattle.batch.proofs.Progress.{begin, starts, end, within, inside, next}
use Rattle.batch_call.proofs.digest_each.Goals as goal

pub loop-k-init : goal.loop-k-init
loop-k-init c =
    let a = c.args in
    begin a.size a.joined.now a.lengths.now a.out.now c.requires.0 c.requires.1 c.requires.2

pub overflow_add-to : goal.overflow_add-to
overflow_add-to c = omega (arith, within c.loop-k.invariant, c.type_inv.lengths c.loop-k.k, c.well_formed)

pub overflow_mul-at : goal.overflow_mul-at
overflow_mul-at c = omega (arith, starts c.loop-k.invariant, c.loop-k.invariant.same, c.well_formed)

pub slice_bounds-digest-end : goal.slice_bounds-digest-end
slice_bounds-digest-end c = inside c.loop-k.invariant c.loop-k-test.true refl

pub slice_bounds-digest-count-in-loop-k : goal.slice_bounds-digest-count-in-loop-k
slice_bounds-digest-count-in-loop-k c = omega (arith, starts c.loop-k.invariant)

pub slice_bounds-digest-start-in-loop-k : goal.slice_bounds-digest-start-in-loop-k
slice_bounds-digest-start-in-loop-k c = omega (arith, starts c.loop-k.invariant)

pub loop-k-preserved : goal.loop-k-preserved
loop-k-preserved c = next c.loop-k.invariant c.loop-k-test.true refl (omega (arith, c.type_inv.lengths c.loop-k.k)) _ c.digest.ensures.out_after

pub shape_of-out : goal.shape_of-out
shape_of-out c = c.loop-k.invariant.same

pub returns : goal.returns
returns c = end c.loop-k.invariant c.loop-k-test.false
