use native.Mathlib.Omega.{arith}
use borrow.Author.Rules.{rules}
use borrow.Author.Tests.{not-true, not-false}
use Rattle.answer.proofs.Tests as Tests
use Rattle.verifier.proofs.Loop.{begin, some_bytes, room, few, holds_all, all_done, one_done, found_false, goes_on}
use mathlib.Core.Path.{ap}
use mathlib.Core.Bool.{not}
use Rattle.verifier.proofs.first_false.Goals as goal

pub loop-from-init : goal.loop-from-init
loop-from-init c =
    let a = c.args in
    (search rules, begin a.width a.sheet.now a.state.now a.records.now c.requires.0 c.requires.1 c.requires.2)

pub step_forward-next-requires : goal.step_forward-next-requires
step_forward-next-requires c =
    let l = c.loop-from.invariant.1 in
    (l.known, l.bytes)

pub record_holds-requires : goal.record_holds-requires
record_holds-requires c =
    let l = c.loop-from.invariant.1 in
    (l.known, search (rules, l.bytes), room l c.loop-from-test.true)

pub finding-finding-requires : goal.finding-finding-requires
finding-finding-requires c =
    let l = c.loop-from.invariant.1 in
    record {
      width_value = (l.known, search (rules, l.bytes), room l c.loop-from-test.true);
      state_value = Tests.stops c.record_holds.ensures (ap not c.if-not-record_holds.true);
    }

pub shape_of-state-then-not-record_holds : goal.shape_of-state-then-not-record_holds
shape_of-state-then-not-record_holds c = search (rules, c.loop-from.invariant.0)

pub returns-then-not-record_holds : goal.returns-then-not-record_holds
returns-then-not-record_holds c =
    let l = c.loop-from.invariant.1 in
    let last = c.step_forward-next.new.vectors in
    let e = c.step_forward-next.ensures in
    record {
      result_value = found_false l c.loop-from-test.true last e.0 e.1 c.record_holds.ensures
          (not-true c.record_holds.result (ap not c.if-not-record_holds.true)) c.finding-finding.ensures;
      state_after = one_done l c.loop-from-test.true last e.0 e.1;
    }

pub overflow_add-number : goal.overflow_add-number
overflow_add-number c =
    let l = c.loop-from.invariant.1 in
    search (rules, few l c.loop-from-test.true)

pub overflow_add-from : goal.overflow_add-from
overflow_add-from c =
    let l = c.loop-from.invariant.1 in
    search (rules, room l c.loop-from-test.true, l.record_size)

pub loop-from-smaller : goal.loop-from-smaller
loop-from-smaller c =
    let l = c.loop-from.invariant.1 in
    omega (arith, c.loop-from-test.true, room l c.loop-from-test.true, l.record_size, some_bytes l)

pub loop-from-preserved : goal.loop-from-preserved
loop-from-preserved c =
    let l = c.loop-from.invariant.1 in
    let e = c.step_forward-next.ensures in (
      search (rules, c.loop-from.invariant.0),
      goes_on l c.loop-from-test.true c.step_forward-next.new.vectors e.0 e.1 c.record_holds.ensures
          (not-false c.record_holds.result (ap not c.if-not-record_holds.false)) (search rules),
    )

pub shape_of-state : goal.shape_of-state
shape_of-state c = c.loop-from.invariant.0

pub returns : goal.returns
returns c =
    record {
      result_value = holds_all c.loop-from.invariant.1 c.loop-from-test.false;
      state_after = all_done c.loop-from.invariant.1 c.loop-from-test.false;
    }
