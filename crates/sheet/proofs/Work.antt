-- The units of the commands at a list of offsets.
use mathlib.Core.Path.{◌≡◌, refl}
use mathlib.Core.List.{List, [], ◌∷◌, sum}
use Prim.Native.Nat.{ℕ, ◌+◌}
use Rattle.sheet.specs.Work.{units_among, total_units_among}

module _ (n w : ℕ) (s : List ℕ) where
  pub units_none : total_units_among n w s [] ≡ 0
  unfolding sum
  units_none = refl

  pub units_more : (i : ℕ) (l : List ℕ) → total_units_among n w s (i ∷ l) ≡ units_among n w s i + total_units_among n w s l
  unfolding sum
  units_more i l = refl
