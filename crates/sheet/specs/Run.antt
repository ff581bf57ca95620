-- Document 01, "The load sheet" and "What each operation refuses": a run of a sheet, forward or backward, over lent bytes. Document
-- 02, Paper 8: over the number n of places, and at eight.
use Rattle.std.specs.Prelude.{List, [], ◌∷◌, ◌++◌, reverse, ℕ, zero, suc, ◌+◌, ◌*◌, ◌/◌, eqb, length, Ok, Err, Some, None}
use Rattle.answer.specs.Answer.{Answer}
use Rattle.answer.specs.Refuse.{outcome}
use Rattle.invertible.specs.Invertible.{stepped}
use Rattle.invertible.specs.RoundTrip.{Direction, Forward, Backward}
use Rattle.memory.specs.Bytes.{bytes_of}
use Rattle.sheet.specs.declared.Command.{Command}
use Rattle.sheet.specs.Read.{Read, place_count, read_among}
use Rattle.sheet.specs.Sheet.{plan_among}
use Rattle.sheet.specs.Effect.{vector_at, effect, undone}
use Rattle.sheet.specs.Work.{total_units_among}
use Rattle.sheet.specs.SheetAnswer.{sheet_answer_among}

-- a command as it is done on a run in the direction: itself, or the command that undoes it
abbrev pub turned : Direction → Command → Command
turned Forward c = c
turned Backward c = undone c

-- the commands in the order in which they are done: forward as they stand, backward the last one first
abbrev pub order : Direction → List ℕ → List ℕ
order Forward l = l
order Backward l = reverse l

-- the vectors v after what stands at an offset
abbrev pub step_with : Direction → ℕ → List ℕ → Read → List (List ℕ) → List (List ℕ)
step_with g w s (Ok (Some d)) v = effect w s (turned g d.command) v
step_with g w s (Err r) v = v
step_with g w s (Ok None) v = v

abbrev pub step_among : ℕ → Direction → ℕ → List ℕ → ℕ → List (List ℕ) → List (List ℕ)
step_among n g w s i v = step_with g w s (read_among n w s i) v

-- the vectors v after the commands at the offsets, one after the other
abbrev pub steps_among : ℕ → Direction → ℕ → List ℕ → List ℕ → List (List ℕ) → List (List ℕ)
steps_among n g w s l v = stepped (step_among n g w s) l v

-- the n vectors of w bytes each that stand from offset i of b on, and back to bytes
unfoldable pub vectors_from : ℕ → ℕ → List ℕ → ℕ → List (List ℕ)
vectors_from w zero b i = []
vectors_from w (suc n) b i = vector_at w b i ∷ vectors_from w n b (i + w)

abbrev pub vector_bytes : ℕ → List (List ℕ) → List ℕ
vector_bytes w [] = []
vector_bytes w (x ∷ v) = bytes_of (w / 8) x ++ vector_bytes w v

-- the vectors v after a sheet's commands in the direction
abbrev pub run_vectors_among : ℕ → Direction → ℕ → List ℕ → List (List ℕ) → List (List ℕ)
run_vectors_among n g w s v = steps_among n g w s (order g (plan_among n w s).offsets) v

-- A run at width w of the sheet s over the lent bytes b. Its answer: 5; 6, the vectors are not n * w bytes; 7 to 11; or the work done, in units
abbrev pub run_answer_among : ℕ → ℕ → List ℕ → List ℕ → Answer
run_answer_among n w s b = sheet_answer_among n w (eqb (length b) (n * w)) s (Ok (total_units_among n w s (plan_among n w s).offsets))

-- .. and the bytes afterwards: a refused run moves nothing
abbrev pub run_bytes_among : ℕ → Direction → ℕ → List ℕ → List ℕ → List ℕ
run_bytes_among n g w s b = outcome (run_answer_among n w s b) (vector_bytes w (run_vectors_among n g w s (vectors_from w n b 0))) b

-- among the eight: V0 to V7 in the lent bytes, one command, some, a sheet, a run
abbrev pub vectors_in : ℕ → List ℕ → List (List ℕ)
vectors_in w b = vectors_from w place_count b 0

abbrev pub step : Direction → ℕ → List ℕ → ℕ → List (List ℕ) → List (List ℕ)
step g w s i v = step_among place_count g w s i v

abbrev pub steps : Direction → ℕ → List ℕ → List ℕ → List (List ℕ) → List (List ℕ)
steps g w s l v = steps_among place_count g w s l v

abbrev pub run_vectors : Direction → ℕ → List ℕ → List (List ℕ) → List (List ℕ)
run_vectors g w s v = run_vectors_among place_count g w s v

abbrev pub run_answer : ℕ → List ℕ → List ℕ → Answer
run_answer w s b = run_answer_among place_count w s b

abbrev pub run_bytes : Direction → ℕ → List ℕ → List ℕ → List ℕ
run_bytes g w s b = run_bytes_among place_count g w s b
