use mathlib.Core.Path.{ap, ◌∙◌}
use mathlib.Core.List.{append-nil}
use native.Mathlib.Nat.{div-mul-le_self}
use lib.ListN.{length}
use Rattle.digest.specs.Blocks.{filled}
use Rattle.memory.proofs.Lists.{to_end}
use Rattle.hash.proofs.straight.Goals as goal

pub returns : goal.returns
returns g c =
    let B = g.row.BLOCK in
    let s = c.args.s.now in
    (rw c.requires c.steps-pipe.ensures, c.hold-waiting.ensures ∙ ap (filled B) (append-nil _ ∙ to_end s _ (div-mul-le_self (length s) B)))
