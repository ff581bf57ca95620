use mathlib.Core.Path.{ap, ◌∙◌}
use Rattle.answer.specs.Number.{number_of}
use Rattle.edonr.proofs.edonr_right_division.Goals as goal

pub returns : goal.returns
returns c =
    record {
      value = c.number.ensures ∙ ap number_of c.right_division.ensures.value;
      out_after = c.right_division.ensures.out_after;
    }
