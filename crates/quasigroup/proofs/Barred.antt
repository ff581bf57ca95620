-- The barred product is the product of the barred vector, at every width.
use mathlib.Core.Path.{◌≡◌, refl, ap, ap₂, ◌∙◌}
use mathlib.Core.List.{List}
use Prim.Native.Nat.{ℕ}
use Rattle.quasigroup.specs.Tables.{Width}
use Rattle.quasigroup.specs.Product.{left_half, right_half, joined, product}
use Rattle.quasigroup.specs.Vector.{reversed}
use Rattle.quasigroup.specs.Barred.{barred_left_half, barred_product, BarredProduct}
use Rattle.quasigroup.specs.Division.{separated, unright, left_division}
use Rattle.quasigroup.proofs.Quasigroup.{left_from_halves}

-- Word i of the reversed vector is word 7 - i, so that both halves sum the same words.
left_half_of_reversed : (s : Width) (x : List ℕ) → barred_left_half s x ≡ left_half s (reversed x)
unfolding left_half barred_left_half
left_half_of_reversed s x = refl

pub barred_product_lem : BarredProduct
unfolding product barred_product
barred_product_lem s x y = ap (λ (l : List ℕ). joined s.bits l (right_half s y)) (left_half_of_reversed s x)

-- what is the barred product is the product of the barred vector
pub from_barred : (s : Width) (x y : List ℕ) {z : List ℕ} → z ≡ barred_product s x y → z ≡ product s (reversed x) y
from_barred s x y e = e ∙ barred_product_lem s x y

-- a barred product from its halves
pub barred_from_halves : (s : Width) (x y : List ℕ) {l r z : List ℕ} → l ≡ barred_left_half s x → r ≡ right_half s y → z ≡ joined s.bits l r
    → z ≡ barred_product s x y
unfolding barred_product
barred_from_halves s x y a b c = c ∙ ap₂ (joined s.bits) a b

-- a division by the barred vector from the barred half and the other one undone
pub barred_left_from_halves : (s : Width) (a b : List ℕ) {h z x : List ℕ} → h ≡ barred_left_half s a → z ≡ separated s.bits b h
    → x ≡ unright s z → x ≡ left_division s (reversed a) b
barred_left_from_halves s a b e f g = left_from_halves s (reversed a) b (e ∙ left_half_of_reversed s a) f g
