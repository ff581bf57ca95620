-- Document 02, Paper 5: a forward run that starts at an offset and does at most k commands, which the kit calls a slice.
use Rattle.std.specs.Prelude.{List, ℕ, min, length, Ok, Err}
use Rattle.answer.specs.Answer.{Answer, refused_at}
use Rattle.answer.specs.Refuse.{outcome}
use Rattle.sheet.specs.Run.{vectors_in, vector_bytes, run_answer}
use Rattle.sheet.specs.Progress.{RunState, starting_at, state_after, remaining}
use Rattle.sheet.specs.Start.{is_start, then_start}
use Rattle.slice.specs.SliceAnswer.{SliceAnswer, reaching}

-- the state after exactly k commands from offset i, or those that remain if fewer
abbrev pub sliced : ℕ → ℕ → List ℕ → ℕ → List (List ℕ) → RunState
sliced k w s i v = state_after (min k (length (remaining w s i))) w s (starting_at i v)

-- The tests of a slice at width w of the sheet s from offset i over the lent bytes b: as a run refuses; then 14, the slice starts neither at a command nor
-- at the sheet's end. (A success has the units of the whole run here; `reached_by` looks at nothing but that it is one.)
abbrev pub slice_tests : ℕ → List ℕ → ℕ → List ℕ → Answer
slice_tests w s i b = then_start (is_start w s i) (run_answer w s b)

-- a success tells what was reached
abbrev pub reached_by : Answer → RunState → SliceAnswer
reached_by (Ok n) p = Ok (reaching p.offset p.units)
reached_by (Err err) p = Err err

-- The answer of a slice with budget k, and the bytes afterwards: a refused slice moves nothing
abbrev pub slice_answer : ℕ → ℕ → List ℕ → ℕ → List ℕ → SliceAnswer
slice_answer k w s i b = reached_by (slice_tests w s i b) (sliced k w s i (vectors_in w b))

abbrev pub slice_bytes : ℕ → ℕ → List ℕ → ℕ → List ℕ → List ℕ
slice_bytes k w s i b = outcome (slice_tests w s i b) (vector_bytes w (sliced k w s i (vectors_in w b)).vectors) b
