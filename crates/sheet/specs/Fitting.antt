-- What a run answers fits the number that C receives, which therefore tells the answer (`NumbersInjective`, crate answer). The statement;
-- proofs/Fitting.antt shows it.
use Rattle.std.specs.Prelude.{List, ℕ, ◌^◌}
use Rattle.answer.specs.Injective.{Fits}
use Rattle.sheet.specs.Run.{run_answer}

abbrev pub RunFits : Type 0
RunFits = (w : ℕ) (s b : List ℕ) → Fits (2 ^ 32) (run_answer w s b)
