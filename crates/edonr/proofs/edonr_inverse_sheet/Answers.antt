use mathlib.Core.Path.{ap, ◌∙◌}
use Rattle.answer.specs.Number.{number_of}
use Rattle.edonr.proofs.edonr_inverse_sheet.Goals as goal

pub returns : goal.returns
returns c =
    record {
      value = c.number.ensures ∙ ap number_of c.inverse_sheet.ensures.value;
      out_after = c.inverse_sheet.ensures.out_after;
    }
