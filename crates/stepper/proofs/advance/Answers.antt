use mathlib.Core.Path.{◌≡◌, sym, ◌∙◌}
use Prim.Native.Nat.{suc, ◌+◌, ◌-◌}
use native.Mathlib.Omega.{arith}
use borrow.Author.Rules.{rules}
use Rattle.sheet.specs.Run.{vectors_in}
use Rattle.sheet.specs.Progress.{run_state}
use Rattle.sheet.proofs.Sound.{was_read, was_end, got_sound}
use Rattle.stepper.proofs.Counting.{one_more, at_fault, at_end}
use Rattle.stepper.proofs.advance.Goals as goal

pub apply-requires : goal.apply-requires
apply-requires c =
    let a = c.args in
    let e = was_read c.read_command.ensures c.in-Ok-Some.is c.in-Ok-Some.field-0-is in
    (c.loop-done.invariant.0, c.loop-done.invariant.1, (got_sound a.width a.sheet.now c.loop-done.offset e).sound)

pub overflow_add-units : goal.overflow_add-units
overflow_add-units c =
    let a = c.args in
    let h = got_sound a.width a.sheet.now c.loop-done.offset (was_read c.read_command.ensures c.in-Ok-Some.is c.in-Ok-Some.field-0-is) in
    search (rules, h.few, c.loop-done.invariant.3)

pub loop-done-preserved : goal.loop-done-preserved
loop-done-preserved c =
    let a = c.args in
    let e = was_read c.read_command.ensures c.in-Ok-Some.is c.in-Ok-Some.field-0-is in
    let h = got_sound a.width a.sheet.now c.loop-done.offset e in
    let less : a.budget - c.loop-done.done ≡ suc (a.budget - (c.loop-done.done + 1)) = omega (arith, c.loop-done-test.true) in (
      c.loop-done.invariant.0,
      search rules,
      search rules,
      omega (arith, h.few, c.loop-done.invariant.3),
      one_more a.width a.sheet.now (run_state c.loop-done.offset c.loop-done.units (vectors_in a.width c.loop-done.vectors)) (a.budget - c.loop-done.done) c.loop-done.invariant.4
          (a.budget - (c.loop-done.done + 1)) less _ e c.apply.ensures,
    )

pub returns-in-Ok-None : goal.returns-in-Ok-None
returns-in-Ok-None c =
    let a = c.args in
    at_end a.width a.sheet.now (run_state c.loop-done.offset c.loop-done.units (vectors_in a.width c.loop-done.vectors))
    (a.budget - c.loop-done.done) c.loop-done.invariant.4 (was_end c.read_command.ensures c.in-Ok-None.is c.in-Ok-None.field-0-is)

pub returns-in-Err : goal.returns-in-Err
returns-in-Err c =
    let a = c.args in
    at_fault a.width a.sheet.now (run_state c.loop-done.offset c.loop-done.units (vectors_in a.width c.loop-done.vectors))
    (a.budget - c.loop-done.done) c.loop-done.invariant.4 c.in-Err.field-0 (sym c.read_command.ensures ∙ c.in-Err.is)
