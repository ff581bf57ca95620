-- What the call answers fits the number that C receives, so that the number tells the answer (`NumbersInjective`, crate answer). The statement;
-- proofs/Fitting.antt shows it.
use Rattle.std.specs.Prelude.{List, ℕ, ◌^◌}
use Rattle.answer.specs.Injective.{Fits}
use Rattle.batch.specs.Batch.{batch_answer}

abbrev pub BatchFits : Type 0
BatchFits = (n joined : ℕ) (ns : List ℕ) (room : ℕ) → Fits (2 ^ 32) (batch_answer n joined ns room)
