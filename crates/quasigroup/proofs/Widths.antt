-- The widths that there are, and what is known of each: words are whole bytes, and the divisions undo the product.
use mathlib.Core.Path.{◌≡◌, refl, sym, subst}
use mathlib.Core.Bool.{true}
use mathlib.Core.List.{List}
use Prim.Native.Nat.{ℕ, ◌*◌, ◌/◌, ◌^◌}
use borrow.Author.Tests.{eqb-true}
use lib.Dec.{eqb}
use Rattle.answer.proofs.Tests.{either}
use Rattle.quasigroup.specs.Tables.{width_of, known_width}
use Rattle.quasigroup.specs.Product.{product}
use Rattle.quasigroup.specs.Division.{left_division, right_division}
use Rattle.quasigroup.specs.Vector.{Vector}
use Rattle.quasigroup.specs.Theorem.{Admissible}
use Rattle.quasigroup.proofs.Vectors.{Undo}
use Rattle.quasigroup.proofs.Quasigroup.{by_left, by_right, admissible_32, admissible_64}

-- ---- 32 and 64

-- what holds of 32 and of 64 holds of a known width
pub of_known : (P : ℕ → Type 0) → P 32 → P 64 → (w : ℕ) → known_width w ≡ true → P w
of_known P p q w e = either (eqb w 32) (eqb w 64) (P w) e (λ h. subst P (sym (eqb-true w 32 h)) p) (λ h. subst P (sym (eqb-true w 64 h)) q)

-- a known width that is not 32 is 64
pub other_width : (w : ℕ) → known_width w ≡ true → (w ≡ 32 → ⊥) → w ≡ 64
other_width = of_known (λ w. (w ≡ 32 → ⊥) → w ≡ 64) (λ n. absurd (n refl)) (λ n. refl)

-- ---- a width whose words are whole bytes, so that a vector of eight takes as many bytes as a word has bits

pub record Bytewise (w : ℕ) : Type 0 where
  pub known : known_width w ≡ true
  pub bits : (width_of w).bits ≡ w
  pub power : 256 ^ (w / 8) ≡ 2 ^ w
  pub eight : 8 * (w / 8) ≡ w
  pub admissible : Admissible (width_of w)

pub bytewise_32 : Bytewise 32
bytewise_32 = record { known = refl; bits = refl; power = refl; eight = refl; admissible = admissible_32 }

pub bytewise_64 : Bytewise 64
bytewise_64 = record { known = refl; bits = refl; power = refl; eight = refl; admissible = admissible_64 }

pub bytewise : (w : ℕ) → known_width w ≡ true → Bytewise w
bytewise = of_known Bytewise bytewise_32 bytewise_64

module _ (w : ℕ) (h : Bytewise w) where
  -- the product by a vector from the left and from the right, and the divisions that undo it
  pub left_division_undoes : (a : List ℕ) → Vector w a → Undo w (product (width_of w) a) (left_division (width_of w) a)
  left_division_undoes =
      subst (λ (n : ℕ). (a : List ℕ) → Vector n a → Undo n (product (width_of w) a) (left_division (width_of w) a)) h.bits (by_left (width_of w) h.admissible)

  pub right_division_undoes : (a : List ℕ) → Vector w a → Undo w (λ y. product (width_of w) y a) (λ b. right_division (width_of w) b a)
  right_division_undoes =
      subst (λ (n : ℕ). (a : List ℕ) → Vector n a → Undo n (λ y. product (width_of w) y a) (λ b. right_division (width_of w) b a)) h.bits
      (by_right (width_of w) h.admissible)
