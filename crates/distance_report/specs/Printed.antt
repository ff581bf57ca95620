-- Document 02, Paper 14, in its words: what is printed for no records, for bytes that are refused, and for records. The statement; proofs/Printed.antt
-- shows it.
use Rattle.std.specs.Prelude.{◌≡◌, List, [], ◌∷◌, ◌++◌, ℕ, ◌+◌, ◌%◌, ◌≤◌, ◌<◌, length}
use Rattle.memory.specs.Lists.{total}
use Rattle.hamming.specs.Counts.{flipped_bits, counts_from, flipped_counts}
use Rattle.distance_report.specs.Report.{line, lines, total_line, report}

-- total 0, and an end of line
abbrev pub nothing_text : List ℕ
nothing_text = 116 ∷ 111 ∷ 116 ∷ 97 ∷ 108 ∷ 32 ∷ 48 ∷ 10 ∷ []

-- refused 19, and an end of line
abbrev pub refused_text : List ℕ
refused_text = 114 ∷ 101 ∷ 102 ∷ 117 ∷ 115 ∷ 101 ∷ 100 ∷ 32 ∷ 49 ∷ 57 ∷ 10 ∷ []

pub record Printed : Type 0 where
  -- with no records only total 0
  pub none : report [] ≡ nothing_text
  -- on a refusal refused and the number only, which is 19 wherever there is one
  pub partial : (s : List ℕ) → (length s % 64 ≡ 0 → ⊥) → report s ≡ refused_text
  pub long : (s : List ℕ) → 65536 < length s → report s ≡ refused_text
  -- else a line for each record, with its number from 1, and then the sum
  pub records : (s : List ℕ) → length s % 64 ≡ 0 → length s ≤ 65536 → report s ≡ lines 1 (flipped_counts s) ++ total_line (total (flipped_counts s))
  -- of n + 1 records from record k on, k from 0 on: the line of record k, with number k + 1 and the number of bits in which its digests differ, and then the
  -- lines of the n behind it
  pub each : (s : List ℕ) (k n : ℕ) → lines (k + 1) (counts_from s k (n + 1)) ≡ line (k + 1) (flipped_bits s k) ++ lines (k + 2) (counts_from s (k + 1) n)
