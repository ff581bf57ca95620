-- Squares of small numbers: as rows of numbers, or as lists of the places of their ones; and what a square makes of a vector.
-- Only laws cite this.
use Rattle.std.specs.Prelude.{List, [], ◌∷◌, map, ℕ, zero, suc, ◌+◌, ◌*◌, replicate}

-- ---- rows and squares

-- rows are added place by place; the longer one's end stays
abbrev pub add : List ℕ → List ℕ → List ℕ
add [] q = q
add (x ∷ p) [] = x ∷ p
add (x ∷ p) (y ∷ q) = (x + y) ∷ add p q

abbrev pub scale : ℕ → List ℕ → List ℕ
scale a p = map (λ x. a * x) p

-- the sum of B's rows, each as often as r says
abbrev pub combine : List ℕ → List (List ℕ) → List ℕ
combine [] B = []
combine (a ∷ r) [] = []
combine (a ∷ r) (b ∷ B) = add (scale a b) (combine r B)

-- the product of squares
abbrev pub mul : List (List ℕ) → List (List ℕ) → List (List ℕ)
mul A B = map (λ r. combine r B) A

-- a one at place i
abbrev pub unit : ℕ → List ℕ
unit zero = 1 ∷ []
unit (suc i) = 0 ∷ unit i

-- the row of eight that a list of places stands for
abbrev pub row : List ℕ → List ℕ
row [] = replicate 8 0
row (i ∷ p) = add (unit i) (row p)

-- the identity
abbrev pub ident : ℕ → List (List ℕ)
ident zero = []
ident (suc n) = (1 ∷ replicate n 0) ∷ map (λ r. 0 ∷ r) (ident n)

-- ---- a square times a vector, over any operation with 0: `◌+◌`, or `bit_xor`

module _ (op : ℕ → ℕ → ℕ) where
  -- x, a times
  abbrev pub repeat : ℕ → ℕ → ℕ
  repeat zero x = 0
  repeat (suc a) x = op x (repeat a x)

  -- a row times a vector
  abbrev pub apply : List ℕ → List ℕ → ℕ
  apply [] v = 0
  apply (a ∷ r) [] = 0
  apply (a ∷ r) (x ∷ v) = op (repeat a x) (apply r v)

  abbrev pub act : List (List ℕ) → List ℕ → List ℕ
  act A v = map (λ r. apply r v) A
