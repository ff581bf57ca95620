use mathlib.Core.Path.{ap, ◌∙◌}
use Rattle.answer.specs.Number.{number_of}
use Rattle.edonr.proofs.edonr_run_forward.Goals as goal

pub returns : goal.returns
returns c =
    record {
      value = c.number.ensures ∙ ap number_of c.run_forward.ensures.value;
      vectors_after = c.run_forward.ensures.vectors_after;
    }
