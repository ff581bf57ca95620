use mathlib.Core.Path.{sym, ◌∙◌}
use native.Mathlib.Omega.{arith}
use Rattle.sheet.proofs.Sound.{was_read, was_end, got_sound, fault_inside}
use Rattle.scanner.proofs.Scanning.{started, more, faulty, ended}
use Rattle.scanner.proofs.scan.Goals as goal

pub loop-d-init : goal.loop-d-init
loop-d-init c = (c.requires, started c.args.width c.args.sheet.now c.args.start c.args.offsets.now)

pub overflow_add-units : goal.overflow_add-units
overflow_add-units c =
    let a = c.args in
    let h = got_sound a.width a.sheet.now c.loop-d.at (was_read c.read_command.ensures c.in-Ok-Some.is c.in-Ok-Some.field-0-is) in
    omega (arith, h.few)

pub loop-d-smaller : goal.loop-d-smaller
loop-d-smaller c =
    let a = c.args in
    let e = was_read c.read_command.ensures c.in-Ok-Some.is c.in-Ok-Some.field-0-is in
    let h = got_sound a.width a.sheet.now c.loop-d.at e in
    omega (arith, h.on, h.within)

pub loop-d-preserved : goal.loop-d-preserved
loop-d-preserved c =
    let a = c.args in
    let e = was_read c.read_command.ensures c.in-Ok-Some.is c.in-Ok-Some.field-0-is in
    let h = got_sound a.width a.sheet.now c.loop-d.at e in (
      c.loop-d.invariant.0,
      more a.width a.sheet.now a.start c.loop-d.invariant.1 c.in-Ok-Some.d e h c.remember.ensures c.met-starts.ensures,
    )

pub shape_of-offsets-in-Err : goal.shape_of-offsets-in-Err
shape_of-offsets-in-Err c = c.loop-d.invariant.1.room

pub returns-in-Err : goal.returns-in-Err
returns-in-Err c =
    let a = c.args in
    let e = sym c.read_command.ensures ∙ c.in-Err.is in
    let both = faulty a.width a.sheet.now a.start c.loop-d.invariant.1 c.in-Err.refusal e (fault_inside a.width a.sheet.now c.loop-d.at e) in
    record {
      summary_value = both.0;
      starts_value = both.1.0;
      offsets_after = both.1.1;
    }

pub shape_of-offsets-in-Ok-None : goal.shape_of-offsets-in-Ok-None
shape_of-offsets-in-Ok-None c = c.loop-d.invariant.1.room

pub returns-in-Ok-None : goal.returns-in-Ok-None
returns-in-Ok-None c =
    let a = c.args in
    let both = ended a.width a.sheet.now a.start c.loop-d.invariant.1 (was_end c.read_command.ensures c.in-Ok-None.is c.in-Ok-None.field-0-is) in
    record {
      summary_value = both.0;
      starts_value = both.1.0;
      offsets_after = both.1.1;
    }
