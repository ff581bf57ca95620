-- The step back from the products and divisions that code makes.
use mathlib.Core.Path.{◌≡◌}
use mathlib.Core.List.{List}
use Prim.Native.Nat.{ℕ}
use Rattle.quasigroup.specs.Tables.{Width}
use Rattle.quasigroup.specs.Product.{product}
use Rattle.quasigroup.specs.Division.{left_division, right_division}
use Rattle.quasigroup.specs.Vector.{reversed}
use Rattle.digest.specs.Pipe.{Pipe}
use Rattle.pipe.specs.Backward.{backward}

module _ (s : Width) (p : Pipe) (X Y : List ℕ) where
  -- product by product, in the order in which they are solved
  pub solved : {d1 d2 d3 d4 d5 d6 c0 c1 : List ℕ}
      → d1 ≡ product s (reversed Y) X → d2 ≡ product s d1 Y
      → d5 ≡ left_division s (reversed X) p.first → d6 ≡ left_division s p.first p.second
      → d4 ≡ right_division s d6 d5 → d3 ≡ right_division s d4 d2 → c0 ≡ right_division s d3 d1 → c1 ≡ left_division s d3 d5
      → record { first = c1; second = c0 } ≡ backward s p X Y
  unfolding backward
  solved e1 e2 e5 e6 e4 e3 e0 e = rw (e, e0, e3, e4, e6, e5, e2, e1)
