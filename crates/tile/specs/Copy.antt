-- Bytes and rows of bytes that stand apart, copied to places that stand apart.
use Rattle.std.specs.Prelude.{List, [], ◌∷◌, ℕ, zero, suc, ◌+◌, ◌*◌, ◌≤◌, ◌<◌, get_or, set}

-- k rows of q places each, from place i on, d apart, lie below n
abbrev pub Inside : ℕ → ℕ → ℕ → ℕ → ℕ → Type 0
Inside k q i d n = (j : ℕ) → j < k → i + j * d + q ≤ n

-- n zeros
unfoldable pub zeros : ℕ → List ℕ
zeros zero = []
zeros (suc n) = 0 ∷ zeros n

-- k bytes of s from place i on, d apart, copied into out from place o on, e apart
unfoldable pub strided_copy : ℕ → List ℕ → ℕ → ℕ → List ℕ → ℕ → ℕ → List ℕ
strided_copy zero s i d out o e = out
strided_copy (suc k) s i d out o e = set (strided_copy k s i d out o e) (o + k * e) (get_or s (i + k * d) 0)

-- k rows of q bytes each, those of s from place i on, d apart, copied into out from place o on, e apart
unfoldable pub rows_copy : ℕ → ℕ → List ℕ → ℕ → ℕ → List ℕ → ℕ → ℕ → List ℕ
rows_copy k zero s i d out o e = out
rows_copy k (suc q) s i d out o e = strided_copy k s (i + q) d (rows_copy k q s i d out o e) (o + q) e
