-- Document 02, Paper 10: a replay's answer for C, one number and the five values of a finding.
use Rattle.std.specs.Prelude.{List, [], ◌∷◌, ℕ, Ok, Err, Some, None}
use Rattle.answer.specs.Answer.{refused_at}
use Rattle.answer.specs.Number.{number_of}
use Rattle.replay.specs.declared.Finding.{Finding}
use Rattle.replay.specs.ReplayAnswer.{ReplayAnswer, false_record}

-- 0 if every record holds, the number of the first false one, or a refusal's number as other calls have it
abbrev pub replay_number : ReplayAnswer → ℕ
replay_number (Ok None) = 0
replay_number (Ok (Some found)) = found.number
replay_number (Err err) = number_of (Err err)

abbrev pub values : Finding → List ℕ
values f = f.offset ∷ f.place ∷ f.word ∷ f.found ∷ f.expected ∷ []

-- the lent finding afterwards: written beside a false record only
abbrev pub finding_after : ReplayAnswer → List ℕ → List ℕ
finding_after (Ok None) old = old
finding_after (Ok (Some found)) old = values found.finding
finding_after (Err err) old = old
