-- What product and divisions on bytes answer fits the number that C receives, which therefore tells the answer (`NumbersInjective`, crate answer).
-- The statement; proofs/Fitting.antt shows it.
use Rattle.std.specs.Prelude.{List, ℕ, ◌^◌}
use Rattle.answer.specs.Injective.{Fits}
use Rattle.operands.specs.Operation.{answer_for}

abbrev pub OperationFits : Type 0
OperationFits = (w : ℕ) (x y out : List ℕ) → Fits (2 ^ 32) (answer_for w x y out)
