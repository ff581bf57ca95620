use mathlib.Core.Path.{sym, subst, ◌∙◌}
use lib.ListN.{length}
use Rattle.sheet.specs.Read.{place_count}
use Rattle.sheet.specs.Run.{vectors_in}
use Rattle.sheet.specs.Sound.{SoundCommand}
use Rattle.sheet.proofs.Sound.{was_read, got_sound}
use Rattle.sheet.proofs.Undoing.{sound_undone}
use Rattle.interpreter.proofs.Loops.{undone_got, undone_fault, undone_end}
use Rattle.interpreter.proofs.undo.Goals as goal

pub apply-requires : goal.apply-requires
apply-requires c =
    let a = c.args in
    let n = length a.sheet.now in
    let h = got_sound a.width a.sheet.now a.at (was_read c.read_command.ensures c.in-Ok-Some.is c.in-Ok-Some.field-0-is) in (
      c.requires.0,
      c.requires.1,
      subst (SoundCommand a.width n) (sym c.opposite-back.ensures) (sound_undone place_count a.width n c.in-Ok-Some.d.command h.sound),
    )
