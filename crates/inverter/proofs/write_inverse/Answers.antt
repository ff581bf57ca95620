use mathlib.Core.Path.{sym, ap, subst, ◌∙◌}
use native.Mathlib.Omega.{arith}
use borrow.Author.Rules.{rules}
use lib.ListN.{length}
use Rattle.sheet.specs.declared.Command.{Command}
use Rattle.sheet.specs.Read.{place_count}
use Rattle.sheet.specs.Sound.{SoundCommand}
use Rattle.sheet.proofs.Sound.{was_read, got_sound}
use Rattle.sheet.proofs.Undoing.{sound_undone}
use Rattle.inverse.specs.Encoding.{encoded}
use Rattle.inverse.proofs.Inverts.{undoing_length}
use Rattle.inverter.proofs.Inverting.{started, here_size, more, ended, faulty}
use Rattle.inverter.proofs.write_inverse.Goals as goal

pub loop-d-init : goal.loop-d-init
loop-d-init c = (c.requires.0, started c.args.width c.args.sheet.now c.args.out.now c.requires.0 c.requires.1)

pub overflow_sub-to : goal.overflow_sub-to
overflow_sub-to c =
    let a = c.args in
    let h = got_sound a.width a.sheet.now c.loop-d.at (was_read c.read_command.ensures c.in-Ok-Some.is c.in-Ok-Some.field-0-is) in
    omega (arith, h.within, c.loop-d.invariant.1.room)

-- Of the command that was read as of the one that undoes it, and of every place that lies in the output: so another command or another place is refused for
-- what it leaves.
pub encode-requires : goal.encode-requires
encode-requires c =
    let a = c.args in
    let w = a.width in
    let s = a.sheet.now in
    let d = c.in-Ok-Some.d in
    let e = was_read c.read_command.ensures c.in-Ok-Some.is c.in-Ok-Some.field-0-is in
    let h = got_sound w s c.loop-d.at e in
    let own = h.sound in
    let back = subst (SoundCommand w (length s)) (sym c.opposite-back.ensures) (sound_undone place_count w (length s) d.command own) in
    let here = here_size w s c.loop-d.at d e h.within (omega (arith, h.on)) in
    let size = ap (λ (x : Command). length (encoded w s x)) c.opposite-back.ensures in
    (search rules, omega (arith, size, undoing_length w s d.command, h.on, h.within, c.loop-d.invariant.1.room))

pub loop-d-smaller : goal.loop-d-smaller
loop-d-smaller c =
    let a = c.args in
    let h = got_sound a.width a.sheet.now c.loop-d.at (was_read c.read_command.ensures c.in-Ok-Some.is c.in-Ok-Some.field-0-is) in
    omega (arith, h.on, h.within)

pub loop-d-preserved : goal.loop-d-preserved
loop-d-preserved c =
    let a = c.args in
    let w = a.width in
    let s = a.sheet.now in
    let e = was_read c.read_command.ensures c.in-Ok-Some.is c.in-Ok-Some.field-0-is in
    let h = got_sound w s c.loop-d.at e in
    (c.loop-d.invariant.0, more w s c.loop-d.at _ e c.loop-d.invariant.1 h.within (omega (arith, h.on)) c.opposite-back.ensures c.encode.ensures)
