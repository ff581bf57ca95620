-- What an operation answers: a success with its number, or a refusal with an offset.
use Rattle.std.specs.Prelude.{ℕ, Result, Err}
use Rattle.answer.specs.declared.Refusal.{Refusal}
use Rattle.answer.specs.declared.Refused.{Refused}

abbrev pub Answer : Type 0
Answer = Result ℕ Refused

-- a refusal with the offset of the first faulty command of a sheet, whatever a success would tell
abbrev pub refused_at : {A : Type 0} → Refusal → ℕ → Result A Refused
refused_at r at = Err (record { refusal = r; offset = at })
