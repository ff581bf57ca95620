-- One block: 001, Definition 8, and document 01, "The digest", at any width.
use Rattle.std.specs.Prelude.{List, ℕ, ◌*◌, ◌/◌}
use Rattle.memory.specs.Bytes.{words_at}
use Rattle.quasigroup.specs.Tables.{Width}
use Rattle.quasigroup.specs.Product.{product}
use Rattle.quasigroup.specs.Vector.{reversed}
use Rattle.digest.specs.Pipe.{Pipe}

-- R's first two arguments, as parts of a pipe. These three lines decide the order of the pipe's halves: C0 is its second vector and C1 its first. Document
-- 01's prose has them the other way round, which gives none of the sixteen values printed in 001, section 3.16; this order gives them, and 001 decides.
abbrev pub c0Of : Pipe → List ℕ
c0Of p = p.second

abbrev pub c1Of : Pipe → List ℕ
c1Of p = p.first

abbrev pub pipe_from : List ℕ → List ℕ → Pipe
pipe_from C0 C1 = record { first = C1; second = C0 }

-- how many bytes a word has
abbrev pub word_bytes : Width → ℕ
word_bytes s = s.bits / 8

module _ (s : Width) where
  -- the function R of C0, C1, X, Y, row by row
  unfoldable pub R : List ℕ → List ℕ → List ℕ → List ℕ → Pipe
  R C0 C1 X Y =
      let D1 = product s (reversed Y) X in
      let D2 = product s D1 Y in
      let D3 = product s C0 D1 in
      let D4 = product s D3 D2 in
      let D5 = product s D3 C1 in
      let D6 = product s D4 D5 in
      let D7 = product s (reversed X) D5 in
      let D8 = product s D7 D6 in
      record { first = D7; second = D8 }

  -- words 0 to 7 of a block, and words 8 to 15
  abbrev pub block_x : List ℕ → List ℕ
  block_x m = words_at (word_bytes s) 8 m 0

  abbrev pub block_y : List ℕ → List ℕ
  block_y m = words_at (word_bytes s) 8 m (8 * word_bytes s)

  -- the pipe p after a block whose halves are X and Y
  abbrev pub forward : Pipe → List ℕ → List ℕ → Pipe
  forward p X Y = R (c0Of p) (c1Of p) X Y

  -- the pipe p after a block m in bytes
  unfoldable pub step : Pipe → List ℕ → Pipe
  step p m = forward p (block_x m) (block_y m)
