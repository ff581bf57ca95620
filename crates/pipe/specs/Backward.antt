-- Document 02, Paper 11: back through a block. R's products that hold the pipe are solved for it, from the last ones to the first; C1 comes last, since
-- it needs D3.
use Rattle.std.specs.Prelude.{List, ℕ}
use Rattle.quasigroup.specs.Tables.{Width}
use Rattle.quasigroup.specs.Product.{product}
use Rattle.quasigroup.specs.Division.{left_division, right_division}
use Rattle.quasigroup.specs.Vector.{reversed}
use Rattle.invertible.specs.RoundTrip.{Direction, Forward, Backward}
use Rattle.digest.specs.Pipe.{Pipe}
use Rattle.digest.specs.Step.{pipe_from, block_x, block_y, forward}

module _ (s : Width) where
  -- the pipe before a block whose halves are X and Y, where p, with the vectors D7 and D8, is the pipe after it; D1 and D2 hold the block alone
  unfoldable pub backward : Pipe → List ℕ → List ℕ → Pipe
  backward p X Y =
      let D1 = product s (reversed Y) X in
      let D2 = product s D1 Y in
      let D7 = p.first in
      let D8 = p.second in
      let D5 = left_division s (reversed X) D7 in
      let D6 = left_division s D7 D8 in
      let D4 = right_division s D6 D5 in
      let D3 = right_division s D4 D2 in
      let C0 = right_division s D3 D1 in
      let C1 = left_division s D3 D5 in
      pipe_from C0 C1

  -- a block forward or back, by the direction
  abbrev pub moved : Direction → Pipe → List ℕ → List ℕ → Pipe
  moved Forward p X Y = forward s p X Y
  moved Backward p X Y = backward p X Y

  -- the pipe before a block m in bytes
  abbrev pub step_back : Pipe → List ℕ → Pipe
  step_back p m = backward p (block_x s m) (block_y s m)
