use mathlib.Core.Path.{ap, ◌∙◌}
use Rattle.replay.specs.ReplayAnswer.{ReplayAnswer}
use Rattle.replay.specs.Number.{replay_number, finding_after}
use Rattle.edonr.proofs.edonr_first_false_record.Goals as goal

pub returns : goal.returns
returns c =
    let e = c.first_false_record.ensures in
    let l = c.args.finding.now in
    record {
      value = c.report.ensures.value ∙ ap replay_number e;
      finding_after = c.report.ensures.finding_after ∙ ap (λ (a : ReplayAnswer). finding_after a l) e;
    }
