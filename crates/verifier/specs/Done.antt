-- How many commands a replay does: as many as there are records, n, or those up to the first false one; none beside a refusal.
use Rattle.std.specs.Prelude.{ℕ, Ok, Err, Some, None}
use Rattle.replay.specs.ReplayAnswer.{ReplayAnswer, false_record}
use Rattle.answer.specs.Answer.{refused_at}

abbrev pub commands_done : ReplayAnswer → ℕ → ℕ
commands_done (Ok None) n = n
commands_done (Ok (Some found)) n = found.number
commands_done (Err err) n = 0
