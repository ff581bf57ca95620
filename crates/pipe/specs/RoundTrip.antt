-- Document 02, Paper 11: demand 3 for blocks, in the words of the theorem about runs (sheet/specs/RoundTrip.antt): a list of calls over the same lent
-- pipe, and the way home.
use Rattle.std.specs.Prelude.{List, ℕ}
use Rattle.answer.specs.Answer.{Answer}
use Rattle.invertible.specs.Invertible.{Each}
use Rattle.invertible.specs.RoundTrip.{Direction, other, RoundTrip}
use Rattle.memory.specs.Bytes.{Bytes}
use Rattle.pipe.specs.Call.{step_answer, step_bytes}

-- a call is its direction, its width and its block
pub record BlockCall : Type 0 where
  pub direction : Direction
  pub width : ℕ
  pub block : List ℕ

-- a call's answer, and the lent bytes after it
abbrev pub answer_to : BlockCall → List ℕ → Answer
answer_to c b = step_answer c.width c.block b

abbrev pub after : BlockCall → List ℕ → List ℕ
after c b = step_bytes c.direction c.width c.block b

-- a call with its own width and block and the other direction
abbrev pub exchanged : BlockCall → BlockCall
exchanged c = record { direction = other c.direction; width = c.width; block = c.block }

-- every block is of bytes
abbrev pub Blocks : List BlockCall → Type 0
Blocks l = Each (λ c. Bytes c.block) l

-- The way home of every list of calls finds the starting bytes, and each call on it answers what it answered on the way out
abbrev pub BlockRoundTrips : Type 0
BlockRoundTrips = (l : List BlockCall) → Blocks l → (b : List ℕ) → Bytes b → RoundTrip exchanged after answer_to l b
