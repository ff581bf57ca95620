-- What a slice answers: how far it came, or a refusal.
use Rattle.std.specs.Prelude.{ℕ, Result}
use Rattle.answer.specs.declared.Refused.{Refused}
use Rattle.slice.specs.declared.Reached.{Reached}

abbrev pub SliceAnswer : Type 0
SliceAnswer = Result Reached Refused

-- the offset that was reached, and the units of the commands done
abbrev pub reaching : ℕ → ℕ → Reached
reaching offset units = record { offset = offset; units = units }
