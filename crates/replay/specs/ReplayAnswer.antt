-- What a replay answers: nothing where every record holds, the first false record, or a refusal.
use Rattle.std.specs.Prelude.{ℕ, Result, Option}
use Rattle.answer.specs.declared.Refused.{Refused}
use Rattle.replay.specs.declared.Finding.{Finding}
use Rattle.replay.specs.declared.FalseRecord.{FalseRecord}

abbrev pub ReplayAnswer : Type 0
ReplayAnswer = Result (Option FalseRecord) Refused

-- a false record by its number, from 1, and what is told of it
abbrev pub false_record : ℕ → Finding → FalseRecord
false_record n f = record { number = n; finding = f }
