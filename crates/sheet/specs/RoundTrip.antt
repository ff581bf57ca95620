-- Document 01, "The load sheet", demand 3: a list of runs over the same lent bytes, and the way home.
use Rattle.std.specs.Prelude.{List, ℕ}
use Rattle.answer.specs.Answer.{Answer}
use Rattle.invertible.specs.Invertible.{Each}
use Rattle.invertible.specs.RoundTrip.{Direction, other, RoundTrip}
use Rattle.memory.specs.Bytes.{Bytes}
use Rattle.sheet.specs.Run.{run_answer, run_bytes}

-- a run is its direction, its width and its sheet
pub record Run : Type 0 where
  pub direction : Direction
  pub width : ℕ
  pub sheet : List ℕ

-- a run's answer, and the lent bytes after it
abbrev pub answer_to : Run → List ℕ → Answer
answer_to r b = run_answer r.width r.sheet b

abbrev pub after : Run → List ℕ → List ℕ
after r b = run_bytes r.direction r.width r.sheet b

-- a run with its own width and sheet and the other direction
abbrev pub exchanged : Run → Run
exchanged r = record { direction = other r.direction; width = r.width; sheet = r.sheet }

-- every sheet is of bytes
abbrev pub Sheets : List Run → Type 0
Sheets l = Each (λ r. Bytes r.sheet) l

-- The way home of every list of runs finds the starting bytes, and each run on it answers what it answered on the way out
abbrev pub RoundTrips : Type 0
RoundTrips = (l : List Run) → Sheets l → (b : List ℕ) → Bytes b → RoundTrip exchanged after answer_to l b
