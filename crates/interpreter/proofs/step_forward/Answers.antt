use Rattle.std.specs.Prelude.{Ok, Err, Some, None}
use mathlib.Core.Path.{sym, ap, ◌∙◌}
use Rattle.sheet.specs.Run.{vectors_in}
use Rattle.sheet.specs.Progress.{RunState, starting_at}
use Rattle.sheet.proofs.Sound.{was_read, got_sound}
use Rattle.sheet.proofs.Progress.{after_read}
use Rattle.interpreter.proofs.step_forward.Goals as goal

pub apply-requires : goal.apply-requires
apply-requires c =
    let a = c.args in (
      c.requires.0,
      c.requires.1,
      (got_sound a.width a.sheet.now a.offset (was_read c.read_command.ensures c.in-Ok-Some.is c.in-Ok-Some.field-0-is)).sound,
    )
