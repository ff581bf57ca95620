-- What the call answers fits the number that C receives, so that the number tells the answer (`NumbersInjective`, crate answer). The statement;
-- proofs/Fitting.antt shows it.
use Rattle.std.specs.Prelude.{List, ℕ, ◌^◌}
use Rattle.answer.specs.Injective.{Fits}
use Rattle.hamming.specs.Counts.{flipped_answer}

abbrev pub CountingFits : Type 0
CountingFits = (s : List ℕ) (n : ℕ) → Fits (2 ^ 32) (flipped_answer s n)
