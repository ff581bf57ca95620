-- Document 01, "Words and vectors": a vector is eight words, each below 2^w.
use Rattle.std.specs.Prelude.{◌≡◌, List, [], ◌∷◌, ℕ, ◌^◌, ◌<◌, length, get_or}

-- every element is below m
pub data Below (m : ℕ) : List ℕ → Type 0 where
  none : Below m []
  more : {x : ℕ} {v : List ℕ} → x < m → Below m v → Below m (x ∷ v)

pub record Vector (w : ℕ) (v : List ℕ) : Type 0 where
  pub size : length v ≡ 8
  pub small : Below (2 ^ w) v

-- the words of a vector in reverse order; 001 and document 01 write a bar over the vector
abbrev pub reversed : List ℕ → List ℕ
reversed x = get_or x 7 0 ∷ get_or x 6 0 ∷ get_or x 5 0 ∷ get_or x 4 0 ∷ get_or x 3 0 ∷ get_or x 2 0 ∷ get_or x 1 0 ∷ get_or x 0 0 ∷ []
