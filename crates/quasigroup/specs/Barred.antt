-- Document 02, Paper 4: the barred product, which takes its first operand's words from the other end. (001 and document 01 write a bar over a vector
-- whose words are in reverse order.)
use Rattle.std.specs.Prelude.{◌≡◌, List, map, ℕ, ◌-◌}
use Rattle.quasigroup.specs.Tables.{Width, left_sums}
use Rattle.quasigroup.specs.Product.{sums, rotations, combinations, right_half, joined, product}
use Rattle.quasigroup.specs.Vector.{reversed}

-- the numbers of the words in sums 0 to 7 over X, counted from the other end: 7 - i where `left_sums` has i
abbrev pub barred_left_sums : List (List ℕ)
barred_left_sums = map (λ p. map (λ i. 7 - i) p) left_sums

module _ (s : Width) where
  -- The left half with those words in its sums. Whatever follows takes sums and not words, so its numbers stay.
  unfoldable pub barred_left_half : List ℕ → List ℕ
  barred_left_half x = combinations left_sums (rotations s.bits s.left_amounts (sums s.bits s.left_constant barred_left_sums x))

  -- the barred product of X and Y
  unfoldable pub barred_product : List ℕ → List ℕ → List ℕ
  barred_product x y = joined s.bits (barred_left_half x) (right_half s y)

-- The theorem: it is the product of the barred vector. Nothing is asked of the width or of the vectors.
abbrev pub BarredProduct : Type 0
BarredProduct = (s : Width) (x y : List ℕ) → barred_product s x y ≡ product s (reversed x) y
