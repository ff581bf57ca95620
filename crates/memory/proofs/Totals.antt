-- Sums of lists in parts.
use mathlib.Core.Path.{◌≡◌, refl, ap, ◌∙◌}
use mathlib.Core.List.{List, [], ◌∷◌, sum}
use Prim.Native.Nat.{ℕ, zero, suc, ◌+◌, ◌<◌}
use native.Mathlib.Omega.{arith}
use lib.ListN.{length, get_or, take, drop}
use lib.Seq.{drop-cons}
use Rattle.memory.specs.Lists.{total}

total_cons : (x : ℕ) (l : List ℕ) → total (x ∷ l) ≡ x + total l
unfolding sum
total_cons x l = refl

-- the elements before place k and those from there on
pub total_parts : (l : List ℕ) (k : ℕ) → total (take k l) + total (drop k l) ≡ total l
unfolding sum
total_parts l zero = omega arith
total_parts [] (suc k) = refl
total_parts (x ∷ l) (suc k) = omega (arith, total_parts l k)

-- from place k on, and from the next one
pub total_next : (l : List ℕ) (k : ℕ) → k < length l → total (drop k l) ≡ get_or l k 0 + total (drop (suc k) l)
total_next l k h = ap total (drop-cons l k 0 h) ∙ total_cons (get_or l k 0) (drop (suc k) l)

-- before place k, and before the next one
pub total_take : (l : List ℕ) (k : ℕ) → k < length l → total (take (suc k) l) ≡ total (take k l) + get_or l k 0
total_take l k h = omega (arith, total_parts l k, total_parts l (suc k), total_next l k h)
