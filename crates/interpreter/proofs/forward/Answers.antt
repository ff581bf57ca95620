use mathlib.Core.Path.{refl, sym, ◌∙◌}
use native.Mathlib.Omega.{arith}
use borrow.Author.Rules.{rules}
use Rattle.sheet.specs.Run.{vectors_in}
use Rattle.sheet.proofs.Sound.{was_read, got_sound}
use Rattle.interpreter.proofs.Loops.{forward_more}
use Rattle.interpreter.proofs.forward.Goals as goal

pub loop-d-init : goal.loop-d-init
loop-d-init c = (c.requires.0, c.requires.1, refl, omega arith, refl)

pub apply-requires : goal.apply-requires
apply-requires c =
    let a = c.args in
    let e = was_read c.read_command.ensures c.in-Ok-Some.is c.in-Ok-Some.field-0-is in
    (c.loop-d.invariant.0, c.loop-d.invariant.1, (got_sound a.width a.sheet.now c.loop-d.at e).sound)

pub loop-d-smaller : goal.loop-d-smaller
loop-d-smaller c =
    let a = c.args in
    let h = got_sound a.width a.sheet.now c.loop-d.at (was_read c.read_command.ensures c.in-Ok-Some.is c.in-Ok-Some.field-0-is) in
    omega (arith, h.on, h.within)

pub loop-d-preserved : goal.loop-d-preserved
loop-d-preserved c =
    let a = c.args in
    let e = was_read c.read_command.ensures c.in-Ok-Some.is c.in-Ok-Some.field-0-is in
    let h = got_sound a.width a.sheet.now c.loop-d.at e in (
      c.loop-d.invariant.0,
      search rules,
      search rules,
      h.within,
      forward_more a.width a.sheet.now c.loop-d.at (vectors_in a.width c.loop-d.vectors) c.loop-d.invariant.4 _ e
          c.apply.ensures,
    )
