use mathlib.Core.Path.{ap, ◌∙◌}
use Rattle.answer.specs.Number.{number_of}
use Rattle.edonr.proofs.edonr_block_backward.Goals as goal

pub returns : goal.returns
returns c =
    record {
      value = c.number.ensures ∙ ap number_of c.backward.ensures.value;
      pipe_after = c.backward.ensures.pipe_after;
    }
