-- Document 02, Paper 1, and demand 3: the way home with inverse sheets, each run in its own direction, so that forward runs alone come home.
use Rattle.std.specs.Prelude.{◌≡◌, List, ℕ}
use Rattle.invertible.specs.Invertible.{Each}
use Rattle.invertible.specs.RoundTrip.{Forward, RoundTrip}
use Rattle.memory.specs.Bytes.{Bytes}
use Rattle.sheet.specs.Run.{run_answer, run_bytes}
use Rattle.sheet.specs.RoundTrip.{Run, answer_to, after, Sheets}
use Rattle.inverse.specs.Encoding.{Accepted}
use Rattle.inverse.specs.Inverse.{inverse_sheet}

-- a run with its own direction and width and the inverse of its sheet
abbrev pub inverted : Run → Run
inverted r = record { direction = r.direction; width = r.width; sheet = inverse_sheet r.width r.sheet }

-- every sheet is accepted
abbrev pub AllAccepted : List Run → Type 0
AllAccepted l = Each (λ r. Accepted r.width r.sheet) l

-- The runs from the last to the first, each with the inverse sheet and not the other direction, find the starting bytes, and each answers what it
-- answered on the way out
abbrev pub InverseRoundTrips : Type 0
InverseRoundTrips = (l : List Run) → Sheets l → AllAccepted l → (b : List ℕ) → Bytes b → RoundTrip inverted after answer_to l b

-- A forward run of the sheet s over the lent bytes b, and then a forward run of its inverse: the starting bytes are there again, and both runs answer the same
pub record ForwardRoundTrip (w : ℕ) (s b : List ℕ) : Type 0 where
  pub state : run_bytes Forward w (inverse_sheet w s) (run_bytes Forward w s b) ≡ b
  pub same : run_answer w (inverse_sheet w s) (run_bytes Forward w s b) ≡ run_answer w s b

abbrev pub ForwardRoundTrips : Type 0
ForwardRoundTrips = (w : ℕ) (s : List ℕ) → Bytes s → Accepted w s → (b : List ℕ) → Bytes b → ForwardRoundTrip w s b
