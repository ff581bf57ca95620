-- Document 02, Paper 10: a recorded run held against the run itself, which the kit calls a replay.
use Rattle.std.specs.Prelude.{Bool, true, false, cond, List, ℕ, zero, suc, ◌*◌, ◌/◌, ◌%◌, eqb, leb, length, Ok, Err, Some, None}
use Rattle.answer.specs.Answer.{Answer, refused_at}
use Rattle.answer.specs.declared.Refusal.TheVariants.{Records, RecordCount}
use Rattle.answer.specs.Refuse.{unless}
use Rattle.sheet.specs.Read.{place_count}
use Rattle.sheet.specs.Sheet.{command_count}
use Rattle.sheet.specs.SheetAnswer.{sheet_answer}
use Rattle.sheet.specs.Run.{vectors_in}
use Rattle.sheet.specs.Progress.{RunState, starting_at, state_after}
use Rattle.shuffle.specs.Shuffle.{record_length}
use Rattle.replay.specs.ReplayAnswer.{ReplayAnswer, false_record}
use Rattle.replay.specs.Difference.{words_in_order, record_at, same_words, difference}

-- the state after the first k commands of a forward run of the sheet s, at width w, over the vectors in the bytes b
abbrev pub state_by : ℕ → List ℕ → List ℕ → ℕ → RunState
state_by w s b k = state_after k w s (starting_at 0 (vectors_in w b))

-- What stands in the record that has k before it among the records r, word by word; and what should, after the k + 1 commands up to its own
abbrev pub recorded : ℕ → List ℕ → ℕ → List ℕ
recorded w r k = record_at w r (k * record_length w)

abbrev pub replayed : ℕ → List ℕ → List ℕ → ℕ → List ℕ
replayed w s b k = words_in_order (state_by w s b (suc k)).vectors

-- the first false one of n records, of those that have k or more before them; numbers are from 1
abbrev pub first_false : ℕ → ℕ → List ℕ → List ℕ → List ℕ → ℕ → ReplayAnswer
first_false zero w s b r k = Ok None
first_false (suc n) w s b r k =
    cond (same_words (recorded w r k) (replayed w s b k))
    (first_false n w s b r (suc k))
    (Ok (Some (false_record (suc k) (difference (state_by w s b k).offset (recorded w r k) (replayed w s b k)))))

abbrev pub record_count : ℕ → List ℕ → ℕ
record_count w r = length r / record_length w

-- the tests of n bytes of records, of a sheet with m commands: 16, n is no multiple of a record's length; then 17, there are more records than commands
abbrev pub record_tests : ℕ → ℕ → ℕ → Answer
record_tests w n m =
    unless (eqb (n % record_length w) 0) Records
    (unless (leb (n / record_length w) m) RecordCount
    (Ok 0))

-- The tests of a replay, at width w, of the records r of a run of the sheet s over the lent bytes b: as a run refuses, and then by the records. (A success
-- has no number of its own; `answered` looks at nothing but that it is one.)
abbrev pub replay_tests : ℕ → List ℕ → List ℕ → List ℕ → Answer
replay_tests w s b r = sheet_answer w (eqb (length b) (place_count * w)) s (record_tests w (length r) (command_count w s))

abbrev pub answered : Answer → ReplayAnswer → ReplayAnswer
answered (Ok n) a = a
answered (Err err) a = Err err

-- the answer
abbrev pub replay_answer : ℕ → List ℕ → List ℕ → List ℕ → ReplayAnswer
replay_answer w s b r = answered (replay_tests w s b r) (first_false (record_count w r) w s b r 0)

-- whether it is a refusal
abbrev pub is_refused : ReplayAnswer → Bool
is_refused (Ok None) = false
is_refused (Ok (Some found)) = false
is_refused (Err err) = true
