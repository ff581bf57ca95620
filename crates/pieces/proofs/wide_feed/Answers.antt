use mathlib.Core.Path.{ap, ◌∙◌}
use Rattle.answer.specs.Number.{marked_number}
use Rattle.wide.specs.declared.Outcome.{Outcome}
use Rattle.pieces.proofs.wide_feed.Goals as goal

pub returns : goal.returns
returns c =
    let e = c.feed-r.ensures in
    let f = c.marked_number-number.ensures ∙ ap (λ (o : Outcome). marked_number o.answer) e in
    λ i. record { number = f i; state = (e i).state }
