-- What the call answers fits the number that C receives, which therefore tells the answer (`NumbersInjective`, crate answer). The statement;
-- proofs/Fitting.antt shows it.
use Rattle.std.specs.Prelude.{List, ℕ, ◌^◌}
use Rattle.answer.specs.Injective.{Fits}
use Rattle.inverse.specs.Inverse.{inverse_answer}

abbrev pub InverseFits : Type 0
InverseFits = (w : ℕ) (s out : List ℕ) → Fits (2 ^ 32) (inverse_answer w s out)
