use mathlib.Core.Path.{ap, ◌∙◌}
use Rattle.answer.specs.Number.{number_of}
use Rattle.answer.specs.Refuse.{outcome}
use Rattle.answer.proofs.Refuse.{outcome_again}
use Rattle.digest.specs.Kind.{wide_kind}
use Rattle.digest.specs.State.{open_answer, zeros, opened as started}
use Rattle.wide.specs.declared.Outcome.{Outcome}
use Rattle.wide.specs.Outcomes.{wide_of, opened}
use Rattle.pieces.proofs.wide_open.Goals as goal

pub returns : goal.returns
unfolding opened
returns c =
    let a = c.args in
    let o = c.open-r.ensures in
    let n = c.number-number.ensures ∙ ap (λ (o : Outcome). number_of o.answer) o in
    let s = c.wide_outcome-state.ensures ∙ ap (λ (o : Outcome). outcome o.answer o.state a.hash) o
    ∙ outcome_again (open_answer wide_kind a.size) wide_of (started wide_kind a.size) (zeros wide_kind) a.hash in
    λ i. record { number = n i; state = s i }
