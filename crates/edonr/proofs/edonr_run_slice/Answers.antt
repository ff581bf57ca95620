use mathlib.Core.Path.{ap, ◌∙◌}
use Rattle.slice.specs.Number.{slice_number}
use Rattle.edonr.proofs.edonr_run_slice.Goals as goal

pub returns : goal.returns
returns c =
    record {
      value = c.number.ensures ∙ ap slice_number c.run_slice.ensures.value;
      vectors_after = c.run_slice.ensures.vectors_after;
    }
