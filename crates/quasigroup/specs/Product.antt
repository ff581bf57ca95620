-- The product X*Y of two vectors of eight words, step by step as 001, Tables 2.1 and 2.2, and document 01, "The product", have it.
use Rattle.std.specs.Prelude.{cond, List, [], ◌∷◌, map, ℕ, ◌+◌, ◌%◌, ◌^◌, eqb, get_or, replicate}
use Rattle.std.specs.Int.Bits.{bit_xor}
use Rattle.word.specs.Word.{plus, rotl}
use Rattle.quasigroup.specs.Tables.{Width, left_sums, right_sums}

-- the words of v with the numbers listed
abbrev pub pick : List ℕ → List ℕ → List ℕ
pick p v = map (λ i. get_or v i 0) p

-- f of the elements of two lists, one of each
abbrev pub both : {A B : Type 0} → (A → B → ℕ) → List A → List B → List ℕ
both f [] l = []
both f (a ∷ k) [] = []
both f (a ∷ k) (b ∷ l) = f a b ∷ both f k l

abbrev pub fold : (ℕ → ℕ → ℕ) → List ℕ → ℕ
fold op [] = 0
fold op (x ∷ l) = op x (fold op l)

-- the words of l and the constant k, summed modulo 2^w
unfoldable pub sum : ℕ → ℕ → List ℕ → ℕ
sum w k l = (fold ◌+◌ l + k) % 2 ^ w

-- the XOR of the words of l
unfoldable pub xor : List ℕ → ℕ
xor l = fold bit_xor l

abbrev without : ℕ → List ℕ → List ℕ
without k [] = []
without k (i ∷ p) = cond (eqb i k) (without k p) (i ∷ without k p)

-- the numbers 0 to 7 that are not in the list
abbrev pub others : List ℕ → List ℕ
others [] = 0 ∷ 1 ∷ 2 ∷ 3 ∷ 4 ∷ 5 ∷ 6 ∷ 7 ∷ []
others (i ∷ p) = without i (others p)

-- the constant goes to the first sum alone
abbrev pub first : ℕ → List ℕ
first c = c ∷ replicate 7 0

-- eight sums, one for each list of word numbers
abbrev pub sums : ℕ → ℕ → List (List ℕ) → List ℕ → List ℕ
sums w c P v = both (λ k p. sum w k (pick p v)) (first c) P

-- each whole sum is then rotated
abbrev pub rotations : ℕ → List ℕ → List ℕ → List ℕ
rotations w rs t = both (rotl w) rs t

-- combination i is the XOR of the three rotated sums whose numbers are not in the list of sum i
abbrev pub combinations : List (List ℕ) → List ℕ → List ℕ
combinations P t = map (λ p. xor (pick (others p) t)) P

abbrev pub half : ℕ → ℕ → List ℕ → List (List ℕ) → List ℕ → List ℕ
half w c rs P v = combinations P (rotations w rs (sums w c P v))

-- the two halves are added, and combination i of both is word (i + 5) modulo 8 of the result
abbrev pub joined : ℕ → List ℕ → List ℕ → List ℕ
joined w a b = map (λ i. plus w (get_or a i 0) (get_or b i 0)) (3 ∷ 4 ∷ 5 ∷ 6 ∷ 7 ∷ 0 ∷ 1 ∷ 2 ∷ [])

module _ (s : Width) where
  unfoldable pub left_half : List ℕ → List ℕ
  left_half x = half s.bits s.left_constant s.left_amounts left_sums x

  unfoldable pub right_half : List ℕ → List ℕ
  right_half y = half s.bits s.right_constant s.right_amounts right_sums y

  -- X*Y
  unfoldable pub product : List ℕ → List ℕ → List ℕ
  product x y = joined s.bits (left_half x) (right_half y)
