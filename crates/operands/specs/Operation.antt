-- Document 01: the product and both divisions on bytes, for a width given as a number.
use Rattle.std.specs.Prelude.{◌&&◌, List, ◌++◌, ℕ, ◌/◌, eqb, leb, length, drop, Ok}
use Rattle.answer.specs.Answer.{Answer}
use Rattle.answer.specs.declared.Refusal.TheVariants.{Width, Operand, Output}
use Rattle.answer.specs.Refuse.{unless, outcome}
use Rattle.memory.specs.Bytes.{words_at, bytes_of}
use Rattle.quasigroup.specs.Tables.{Width as Parameters, width_of, known_width}

-- 5, the width is not 32 or 64; 6, either operand is not exactly w bytes; 4, the output is under w bytes
abbrev pub answer_for : ℕ → List ℕ → List ℕ → List ℕ → Answer
answer_for w x y out =
    unless (known_width w) Width
    (unless (eqb (length x) w && eqb (length y) w) Operand
    (unless (leb w (length out)) Output
    (Ok w)))

-- an operation on vectors of eight words of w bits, on their bytes
unfoldable pub on_bytes : (Parameters → List ℕ → List ℕ → List ℕ) → ℕ → List ℕ → List ℕ → List ℕ
on_bytes op w x y = bytes_of (w / 8) (op (width_of w) (words_at (w / 8) 8 x 0) (words_at (w / 8) 8 y 0))

-- the output after the call: the result in its first w bytes and the rest as it was, or, after a refusal, all as it was
abbrev pub output_after : (Parameters → List ℕ → List ℕ → List ℕ) → ℕ → List ℕ → List ℕ → List ℕ → List ℕ
output_after op w x y out = outcome (answer_for w x y out) (on_bytes op w x y ++ drop w out) out
