-- What a call on a lent pipe answers fits the number that C receives, which therefore tells the answer (`NumbersInjective`, crate answer). The statement;
-- proofs/Fitting.antt shows it.
use Rattle.std.specs.Prelude.{List, ℕ, ◌^◌}
use Rattle.answer.specs.Injective.{Fits}
use Rattle.pipe.specs.Call.{step_answer}

abbrev pub BlockFits : Type 0
BlockFits = (w : ℕ) (m b : List ℕ) → Fits (2 ^ 32) (step_answer w m b)
