-- The transpose of a matrix of bytes, whose rows stand one after the other: its columns, one after the other.
use Rattle.std.specs.Prelude.{List, [], ◌∷◌, ◌++◌, ℕ, zero, suc, ◌+◌, get_or}

-- n bytes of s from place i on, m apart: column i of a matrix of n rows of m bytes
abbrev pub column : ℕ → ℕ → List ℕ → ℕ → List ℕ
column m zero s i = []
column m (suc n) s i = get_or s i 0 ∷ column m n s (i + m)

-- c columns from column i on
abbrev pub columns : ℕ → ℕ → ℕ → List ℕ → ℕ → List ℕ
columns m n zero s i = []
columns m n (suc c) s i = column m n s i ++ columns m n c s (i + 1)

-- the transpose of a matrix of n rows and m columns: all its columns
unfoldable pub transposed : ℕ → ℕ → List ℕ → List ℕ
transposed n m s = columns m n m s 0
