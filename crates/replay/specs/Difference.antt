-- Document 02, Paper 10: the words of eight vectors in order, and the first in which two lists of words differ.
use Rattle.std.specs.Prelude.{Bool, cond, List, [], ◌∷◌, ◌++◌, ℕ, suc, ◌/◌, ◌%◌, eqb, get_or}
use Rattle.memory.specs.Bytes.{words_at}
use Rattle.shuffle.specs.Shuffle.{record_words}
use Rattle.replay.specs.declared.Finding.{Finding}

-- the words of vectors in order: by place, and then by word number
abbrev pub words_in_order : List (List ℕ) → List ℕ
words_in_order [] = []
words_in_order (x ∷ v) = x ++ words_in_order v

-- .. of the eight vectors whose bytes stand from offset i of b on
unfoldable pub record_at : ℕ → List ℕ → ℕ → List ℕ
record_at w b i = words_at (w / 8) record_words b i

-- how many words are the same before the first that differs
abbrev pub agreeing : List ℕ → List ℕ → ℕ
agreeing [] y = 0
agreeing (a ∷ x) [] = 0
agreeing (a ∷ x) (b ∷ y) = cond (eqb a b) (suc (agreeing x y)) 0

-- whether all words of a record agree
abbrev pub same_words : List ℕ → List ℕ → Bool
same_words found expected = eqb (agreeing found expected) record_words

-- what is told of word i, where the record's command stands at an offset of the sheet; and of the first that differs
abbrev pub finding_at : ℕ → List ℕ → List ℕ → ℕ → Finding
finding_at offset found expected i =
    record { offset = offset; place = i / 8; word = i % 8; found = get_or found i 0; expected = get_or expected i 0 }

abbrev pub difference : ℕ → List ℕ → List ℕ → Finding
difference offset found expected = finding_at offset found expected (agreeing found expected)
