-- A block's step can be taken back, at every admissible width.
use mathlib.Core.Path.{◌≡◌, refl, sym, ap, ◌∙◌}
use mathlib.Core.List.{List}
use Prim.Native.Nat.{ℕ}
use Rattle.invertible.specs.Invertible.{stepped, Each, Invertible}
use Rattle.invertible.specs.RoundTrip.{Direction, Forward, Backward, other, reversal, Returns}
use Rattle.invertible.proofs.RoundTrip.{returns}
use Rattle.quasigroup.specs.Tables.{Width, width32, width64}
use Rattle.quasigroup.specs.Product.{product}
use Rattle.quasigroup.specs.Division.{left_division, right_division}
use Rattle.quasigroup.specs.Vector.{Vector, reversed}
use Rattle.quasigroup.specs.Theorem.{OnlySolution, Admissible}
use Rattle.quasigroup.proofs.Vectors.{reversed_undo}
use Rattle.quasigroup.proofs.Quasigroup.{by_left, by_right, admissible_32, admissible_64}
use Rattle.digest.specs.Pipe.{Pipe}
use Rattle.digest.specs.Step.{R, forward}
use Rattle.digest.proofs.Step.{rows}
use Rattle.pipe.specs.Backward.{backward, moved}
use Rattle.pipe.specs.Reversible.{PipeOf, BlockStep, BlockStepOf, exchanged, after, Reversible, BlocksReversible}
use Rattle.pipe.proofs.Backward.{solved}

module _ (s : Width) (h : Admissible s) where
  abbrev w : ℕ
  w = s.bits

  -- ---- one block

  module _ (X Y : List ℕ) (h_x : Vector w X) (h_y : Vector w Y) where
    abbrev D1 : List ℕ
    D1 = product s (reversed Y) X

    abbrev D2 : List ℕ
    D2 = product s D1 Y

    hb_x : Vector w (reversed X)
    hb_x = (reversed_undo w).there X h_x

    h1 : Vector w D1
    h1 = (by_left s h (reversed Y) ((reversed_undo w).there Y h_y)).there X h_x

    h2 : Vector w D2
    h2 = (by_left s h D1 h1).there Y h_y

    -- forward from p: each row is a vector, and the division takes it back
    module _ (p : Pipe) (hp : PipeOf w p) where
      abbrev D3 : List ℕ
      D3 = product s p.second D1

      abbrev D4 : List ℕ
      D4 = product s D3 D2

      abbrev D5 : List ℕ
      D5 = product s D3 p.first

      abbrev D6 : List ℕ
      D6 = product s D4 D5

      abbrev D7 : List ℕ
      D7 = product s (reversed X) D5

      h3 : Vector w D3
      h3 = (by_right s h D1 h1).there p.second hp.second

      h4 : Vector w D4
      h4 = (by_right s h D2 h2).there D3 h3

      h5 : Vector w D5
      h5 = (by_left s h D3 h3).there p.first hp.first

      h6 : Vector w D6
      h6 = (by_right s h D5 h5).there D4 h4

      h7 : Vector w D7
      h7 = (by_left s h (reversed X) hb_x).there D5 h5

      pub forward_of : PipeOf w (forward s p X Y)
      unfolding R
      forward_of = record { first = h7; second = (by_left s h D7 h7).there D6 h6 }

      pub back_again : backward s (forward s p X Y) X Y ≡ p
      unfolding R
      back_again =
          sym (solved s (forward s p X Y) X Y refl refl (sym ((by_left s h (reversed X) hb_x).left D5 h5)) (sym ((by_left s h D7 h7).left D6 h6))
          (sym ((by_right s h D5 h5).left D4 h4)) (sym ((by_right s h D2 h2).left D3 h3)) (sym ((by_right s h D1 h1).left p.second hp.second))
          (sym ((by_left s h D3 h3).left p.first hp.first)))

    -- back from q: each solution is a vector, and the product finds what was divided
    module _ (q : Pipe) (hq : PipeOf w q) where
      abbrev S5 : List ℕ
      S5 = left_division s (reversed X) q.first

      abbrev S6 : List ℕ
      S6 = left_division s q.first q.second

      abbrev S4 : List ℕ
      S4 = right_division s S6 S5

      abbrev S3 : List ℕ
      S3 = right_division s S4 D2

      k5 : Vector w S5
      k5 = (by_left s h (reversed X) hb_x).back q.first hq.first

      k6 : Vector w S6
      k6 = (by_left s h q.first hq.first).back q.second hq.second

      k4 : Vector w S4
      k4 = (by_right s h S5 k5).back S6 k6

      k3 : Vector w S3
      k3 = (by_right s h D2 h2).back S4 k4

      backward_of : PipeOf w (backward s q X Y)
      unfolding backward
      backward_of = record { first = (by_left s h S3 k3).back S5 k5; second = (by_right s h D1 h1).back S3 k3 }

      forth_again : forward s (backward s q X Y) X Y ≡ q
      unfolding backward
      forth_again =
          sym (rows s (backward s q X Y).second (backward s q X Y).first X Y refl refl (sym ((by_right s h D1 h1).right S3 k3))
          (sym ((by_right s h D2 h2).right S4 k4)) (sym ((by_left s h S3 k3).right S5 k5)) (sym ((by_right s h S5 k5).right S6 k6))
          (sym ((by_left s h (reversed X) hb_x).right q.first hq.first)) (sym ((by_left s h q.first hq.first).right q.second hq.second)))

    -- in either direction
    pub moved_of : (g : Direction) (p : Pipe) → PipeOf w p → PipeOf w (moved s g p X Y)
    moved_of Forward = forward_of
    moved_of Backward = backward_of

    pub moved_back : (g : Direction) (p : Pipe) → PipeOf w p → moved s (other g) (moved s g p X Y) X Y ≡ p
    moved_back Forward = back_again
    moved_back Backward = forth_again

    only : (q : Pipe) → PipeOf w q → OnlySolution (PipeOf w) (λ p. forward s p X Y) q (backward s q X Y)
    only q hq =
        record {
          holds = backward_of q hq;
          solves = forth_again q hq;
          unique = λ p hp e. sym (back_again p hp) ∙ ap (λ (p : Pipe). backward s p X Y) e;
        }

  -- ---- a list of steps

  invertible : Invertible (BlockStepOf w) (PipeOf w) (after s) (λ b. after s (exchanged b))
  invertible =
      record {
        keeps = λ b p hb hp. moved_of b.x b.y hb.x hb.y b.direction p hp;
        back = λ b p hb hp. moved_back b.x b.y hb.x hb.y b.direction p hp;
      }

  steps_return : (l : List BlockStep) → Each (BlockStepOf w) l → (p : Pipe) → PipeOf w p → Returns exchanged (after s) l p
  steps_return l hl p hp = returns exchanged (after s) invertible hl p hp

pub reversible : BlocksReversible
reversible s h =
    record {
      closed = λ p X Y hp h_x h_y. forward_of s h X Y h_x h_y p hp;
      unique_before = λ q X Y hq h_x h_y. only s h X Y h_x h_y q hq;
      injective = λ l hl p q hp hq n e.
          n (sym (steps_return s h l hl p hp) ∙ ap (stepped (after s) (reversal exchanged l)) e ∙ steps_return s h l hl q hq);
      returns = steps_return s h;
    }

pub reversible_32 : Reversible width32
reversible_32 = reversible width32 admissible_32

pub reversible_64 : Reversible width64
reversible_64 = reversible width64 admissible_64
