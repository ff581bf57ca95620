-- Document 02, Paper 11, for C: a block forward or back on a pipe in lent bytes, for a width given as a number. No paper names these calls
-- (docs/DECISIONS.md).
use Rattle.std.specs.Prelude.{◌&&◌, List, ℕ, ◌*◌, eqb, length, Ok}
use Rattle.answer.specs.Answer.{Answer}
use Rattle.answer.specs.declared.Refusal.TheVariants.{Width, Operand}
use Rattle.answer.specs.Refuse.{unless, outcome}
use Rattle.invertible.specs.RoundTrip.{Direction}
use Rattle.quasigroup.specs.Tables.{Width as Parameters, width_of, known_width}
use Rattle.digest.specs.Pipe.{Pipe, written}
use Rattle.digest.specs.Step.{word_bytes, block_x, block_y}
use Rattle.pipe.specs.Backward.{moved}

-- the answer to a step by the block m on the pipe b: 5, the width is not 32 or 64; 6, the pipe or the block is not exactly 2 * w bytes; or 2 * w
abbrev pub step_answer : ℕ → List ℕ → List ℕ → Answer
step_answer w m b = unless (known_width w) Width (unless (eqb (length b) (2 * w) && eqb (length m) (2 * w)) Operand (Ok (2 * w)))

module _ (s : Parameters) where
  -- a pipe stands in bytes as a block does: words 0 to 7, then words 8 to 15; `written` writes it so
  abbrev pub pipe_in : List ℕ → Pipe
  pipe_in b = record { first = block_x s b; second = block_y s b }

  -- the pipe in the bytes b, moved by the block m and written out again
  unfoldable pub moved_bytes : Direction → List ℕ → List ℕ → List ℕ
  moved_bytes g m b = written (word_bytes s) (moved s g (pipe_in b) (block_x s m) (block_y s m))

-- .. and the bytes of the pipe afterwards; a refused step changes none
abbrev pub step_bytes : Direction → ℕ → List ℕ → List ℕ → List ℕ
step_bytes g w m b = outcome (step_answer w m b) (moved_bytes (width_of w) g m b) b
