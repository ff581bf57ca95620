-- A word and a number behind it, as the kit's programs print them.
use Rattle.std.specs.Prelude.{List, [], ◌∷◌, ◌++◌, ℕ}
use Rattle.answer.specs.declared.Refusal.{Refusal}
use Rattle.answer.specs.Number.{refusal_number}
use Rattle.text.specs.Decimal.{spaced}

abbrev pub labelled : List ℕ → ℕ → List ℕ
labelled word n = word ++ spaced n

-- the word refused
abbrev pub refused_word : List ℕ
refused_word = 114 ∷ 101 ∷ 102 ∷ 117 ∷ 115 ∷ 101 ∷ 100 ∷ []

-- .. and the refusal's number
abbrev pub refused : Refusal → List ℕ
refused r = labelled refused_word (refusal_number r)
