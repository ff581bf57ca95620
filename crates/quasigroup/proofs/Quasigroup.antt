-- The quasigroup theorem, for every admissible width: there is one solution, and the divisions return it.
use mathlib.Core.Path.{◌≡◌, refl, sym, ap, ap₂, ◌∙◌}
use Prim.Native.Nat.{ℕ}
use native.Mathlib.Omega.{arith}
use mathlib.Core.List.{List}
use Rattle.quasigroup.specs.Tables.{Width, left_sums, right_sums, width32, width64}
use Rattle.quasigroup.specs.Product.{left_half, right_half, joined, product}
use Rattle.quasigroup.specs.Division.{left_unxors, right_unxors, left_inverse, right_inverse, separated, unleft, unright, left_division, right_division}
use Rattle.quasigroup.specs.Vector.{Vector}
use Rattle.quasigroup.specs.Theorem.{OnlySolution, Quasigroup, Admissible, EveryWidth}
use Rattle.quasigroup.proofs.Modulo.{below_test}
use Rattle.quasigroup.proofs.Vectors.{Undo, then, undo_on}
use Rattle.quasigroup.proofs.Half.{Tables, half_undo, joined_comm, joined_undo}

left_tables : Tables left_sums left_unxors left_inverse
left_tables =
    record {
      sums_undone = record { count = refl; rows = refl; after = refl; before = refl; columns = refl };
      count = refl;
      xors_undone = refl;
      unxors_undone = refl;
    }

right_tables : Tables right_sums right_unxors right_inverse
right_tables =
    record {
      sums_undone = record { count = refl; rows = refl; after = refl; before = refl; columns = refl };
      count = refl;
      xors_undone = refl;
      unxors_undone = refl;
    }

only : {w : ℕ} {f g : List ℕ → List ℕ} → Undo w f g → (b : List ℕ) → Vector w b → OnlySolution (Vector w) f b (g b)
only {g = g} u b h = record { holds = u.back b h; solves = u.right b h; unique = λ z k e. sym (u.left z k) ∙ ap g e }

-- a product from its halves
pub from_halves : (s : Width) (x y : List ℕ) {l r z : List ℕ} → l ≡ left_half s x → r ≡ right_half s y → z ≡ joined s.bits l r → z ≡ product s x y
unfolding product
from_halves s x y a b c = c ∙ ap₂ (joined s.bits) a b

-- a division from the half that is known and the other one undone
pub left_from_halves : (s : Width) (a b : List ℕ) {h z x : List ℕ} → h ≡ left_half s a → z ≡ separated s.bits b h → x ≡ unright s z → x ≡ left_division s a b
unfolding left_division
left_from_halves s a b e f g = g ∙ ap (unright s) (f ∙ ap (separated s.bits b) e)

pub right_from_halves : (s : Width) (b a : List ℕ) {h z x : List ℕ} → h ≡ right_half s a → z ≡ separated s.bits b h → x ≡ unleft s z → x ≡ right_division s b a
unfolding right_division
right_from_halves s b a e f g = g ∙ ap (unleft s) (f ∙ ap (separated s.bits b) e)

module _ (s : Width) (h : Admissible s) where
  left_undo : Undo s.bits (left_half s) (unleft s)
  unfolding left_half unleft
  left_undo = half_undo s.bits h.some s.left_constant s.left_amounts h.left_eight h.left_within left_sums left_unxors left_inverse left_tables

  right_undo : Undo s.bits (right_half s) (unright s)
  unfolding right_half unright
  right_undo = half_undo s.bits h.some s.right_constant s.right_amounts h.right_eight h.right_within right_sums right_unxors right_inverse right_tables

  -- the product by a from the left, and the division that undoes it
  pub by_left : (a : List ℕ) → Vector s.bits a → Undo s.bits (product s a) (left_division s a)
  unfolding product left_division
  by_left a b =
      undo_on (λ v _. joined_comm s.bits (right_half s v) (left_half s a)) (λ v _. refl)
      (then right_undo (joined_undo s.bits (left_half s a) (left_undo.there a b)))

  -- and from the right
  pub by_right : (a : List ℕ) → Vector s.bits a → Undo s.bits (λ y. product s y a) (λ b. right_division s b a)
  unfolding product right_division
  by_right a b = then left_undo (joined_undo s.bits (right_half s a) (right_undo.there a b))

pub quasigroup : EveryWidth
quasigroup s h =
    record {
      closed = λ x y hx hy. (by_left s h x hx).there y hy;
      left = λ a b ha hb. only (by_left s h a ha) b hb;
      right = λ a b ha hb. only (by_right s h a ha) b hb;
    }

pub admissible_32 : Admissible width32
admissible_32 = record { some = omega arith; left_eight = refl; right_eight = refl; left_within = below_test _ _ tt; right_within = below_test _ _ tt }

pub admissible_64 : Admissible width64
admissible_64 = record { some = omega arith; left_eight = refl; right_eight = refl; left_within = below_test _ _ tt; right_within = below_test _ _ tt }

pub quasigroup_32 : Quasigroup width32
quasigroup_32 = quasigroup width32 admissible_32

pub quasigroup_64 : Quasigroup width64
quasigroup_64 = quasigroup width64 admissible_64
