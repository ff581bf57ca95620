use Rattle.std.proofs.Common.{ap, ◌∙◌}
use Rattle.digest.specs.Kind.{narrow_kind}
use Rattle.digest.specs.State.{feed_answer, feed_state}
use Rattle.narrow.specs.Outcomes.{narrow_of, fed}
use Rattle.narrow.proofs.feed.Goals as goal

pub returns : goal.returns
unfolding fed
returns c =
    let s = c.args.bytes.now in
    let e = c.feed-r.ensures in
    let answer = e.0 ∙ ap (λ h. feed_answer narrow_kind h s) c.from.ensures in
    let state = c.from-2.ensures ∙ ap narrow_of (e.1 ∙ ap (λ h. feed_state narrow_kind h s) c.from.ensures) in
    λ i. record { answer = answer i; state = state i }
