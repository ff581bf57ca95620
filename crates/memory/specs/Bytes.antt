-- 001, Table 1.1, and document 01, "Words and vectors": words in bytes, word 0 first, each word's lowest byte first.
use Rattle.std.specs.Prelude.{List, [], ◌∷◌, ◌++◌, ℕ, zero, suc, ◌+◌, ◌*◌, ◌/◌, ◌%◌, ◌<◌, get_or}

-- the word whose k bytes stand at offset i of s, lowest byte first
abbrev pub word_at : ℕ → List ℕ → ℕ → ℕ
word_at zero s i = 0
word_at (suc k) s i = get_or s i 0 + 256 * word_at k s (i + 1)

-- the n words of k bytes each that stand from offset i of s
abbrev pub words_at : ℕ → ℕ → List ℕ → ℕ → List ℕ
words_at k zero s i = []
words_at k (suc n) s i = word_at k s i ∷ words_at k n s (i + k)

-- the lowest k bytes of x, lowest first
abbrev pub bytes : ℕ → ℕ → List ℕ
bytes zero x = []
bytes (suc k) x = x % 256 ∷ bytes k (x / 256)

-- the bytes of a list of words of k bytes each
abbrev pub bytes_of : ℕ → List ℕ → List ℕ
bytes_of k [] = []
bytes_of k (x ∷ v) = bytes k x ++ bytes_of k v

-- every element is a byte
abbrev pub Bytes : List ℕ → Type 0
Bytes s = (i : ℕ) → get_or s i 0 < 256
