use Rattle.std.proofs.Common.{ap, ◌∙◌}
use Rattle.wide.specs.Outcomes.{wide_of, opened}
use Rattle.wide.proofs.open.Goals as goal

pub returns : goal.returns
unfolding opened
returns c = let e = c.open-r.ensures in λ i. record { answer = e.0 i; state = (c.from.ensures ∙ ap wide_of e.1) i }
