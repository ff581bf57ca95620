use mathlib.Core.Path.{ap, ◌∙◌}
use Rattle.answer.specs.Number.{number_of}
use Rattle.pieces.proofs.wide_finish_bits.Goals as goal

pub returns : goal.returns
returns c = (c.number.ensures ∙ ap number_of c.finish.ensures.value, c.finish.ensures.out_after)
