use mathlib.Core.Path.{refl, sym, ◌∙◌}
use native.Mathlib.Omega.{arith}
use borrow.Author.Rules.{rules}
use Rattle.sheet.proofs.Sound.{was_read, got_sound}
use Rattle.text.proofs.Partly.{none_yet}
use Rattle.listing.proofs.Lines.{rest, lines_more, lines_fault, lines_end}
use Rattle.listing.proofs.push_lines.Goals as goal

pub loop-d-init : goal.loop-d-init
loop-d-init c = (c.requires, omega arith, omega arith, refl, none_yet c.args.out.now 0 (rest c.args.width c.args.sheet.now 0))

pub loop-d-smaller : goal.loop-d-smaller
loop-d-smaller c =
    let a = c.args in
    let h = got_sound a.width a.sheet.now c.loop-d.at (was_read c.read_command.ensures c.in-Ok-Some.is c.in-Ok-Some.field-0-is) in
    omega (arith, h.on, h.within)

pub loop-d-preserved : goal.loop-d-preserved
loop-d-preserved c =
    let a = c.args in
    let e = was_read c.read_command.ensures c.in-Ok-Some.is c.in-Ok-Some.field-0-is in
    let h = got_sound a.width a.sheet.now c.loop-d.at e in
    let m = lines_more a.width a.sheet.now c.loop-d.at c.loop-d.invariant.4 c.in-Ok-Some.d e c.push_line-next.ensures.pushed in
    (c.loop-d.invariant.0, h.within, omega (arith, h.on, c.push_line-next.ensures.upper_bound), search rules, m)
