-- Document 02, Paper 14: what the program prints for the bytes of pairs.bin, as ASCII bytes.
use Rattle.std.specs.Prelude.{List, [], ◌∷◌, ◌++◌, ℕ, suc, Ok, Err}
use Rattle.answer.specs.Answer.{Answer, refused_at}
use Rattle.hamming.specs.Counts.{flipped_counts, flipped_answer}
use Rattle.text.specs.Decimal.{decimal, spaced}
use Rattle.text.specs.Label.{labelled, refused}

-- the line of a record: its number, the number of bits in which its digests differ
abbrev pub line : ℕ → ℕ → List ℕ
line k c = decimal k ++ (spaced c ++ (10 ∷ []))

-- a line for each count, the first with number k
abbrev pub lines : ℕ → List ℕ → List ℕ
lines k [] = []
lines k (c ∷ l) = line k c ++ lines (suc k) l

-- total, the sum
abbrev pub total_line : ℕ → List ℕ
total_line n = labelled (116 ∷ 111 ∷ 116 ∷ 97 ∷ 108 ∷ []) n ++ (10 ∷ [])

-- what is printed for the counts l and the call's answer: a line for each record, numbers from 1, and the sum; or refused and the number only
abbrev pub told : List ℕ → Answer → List ℕ
told l (Ok n) = lines 1 l ++ total_line n
told l (Err err) = refused err.refusal ++ (10 ∷ [])

-- the program lends the call 1,024 counts, as many as there can be records
abbrev pub report : List ℕ → List ℕ
report s = told (flipped_counts s) (flipped_answer s 1024)
