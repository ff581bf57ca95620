use mathlib.Core.Path.{ap, ◌∙◌}
use Rattle.answer.specs.Number.{number_of}
use Rattle.digest.specs.Kind.{wide_kind}
use Rattle.digest.proofs.BitFinishing.{no_bits}
use Rattle.wide.specs.Outcomes.{hash_of}
use Rattle.pieces.proofs.wide_finish.Goals as goal

pub returns : goal.returns
returns c =
    let a = c.args in
    let none = no_bits wide_kind (hash_of a.hash) 0 a.out.now in
    (c.wide_finish_bits.ensures.0 ∙ ap number_of none.0, c.wide_finish_bits.ensures.1 ∙ none.1)
