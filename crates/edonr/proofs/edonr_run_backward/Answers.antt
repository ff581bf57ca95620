use mathlib.Core.Path.{ap, ◌∙◌}
use Rattle.answer.specs.Number.{number_of}
use Rattle.edonr.proofs.edonr_run_backward.Goals as goal

pub returns : goal.returns
returns c =
    record {
      value = c.number.ensures ∙ ap number_of c.run_backward.ensures.value;
      vectors_after = c.run_backward.ensures.vectors_after;
    }
