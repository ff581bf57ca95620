-- Document 02, Paper 14: records of two digests, the bits in which the two differ, and their sum. A record is here such a pair, and not that of Paper 10.
use Rattle.std.specs.Prelude.{Bool, ◌&&◌, List, [], ◌∷◌, ◌++◌, ℕ, zero, suc, ◌+◌, ◌*◌, ◌/◌, ◌%◌, eqb, leb, length, drop, Ok}
use Rattle.answer.specs.Answer.{Answer}
use Rattle.answer.specs.declared.Refusal.TheVariants.{Pairs, Output}
use Rattle.answer.specs.Refuse.{unless, outcome}
use Rattle.memory.specs.Lists.{bytes_at, total}
use Rattle.hamming.specs.Distance.{distance}

-- the digests of record k of s, k from 0 on: 32 bytes each, one behind the other
abbrev pub first_digest : List ℕ → ℕ → List ℕ
first_digest s k = bytes_at 32 s (64 * k)

abbrev pub second_digest : List ℕ → ℕ → List ℕ
second_digest s k = bytes_at 32 s (64 * k + 32)

-- the number of bits in which they differ
abbrev pub flipped_bits : List ℕ → ℕ → ℕ
flipped_bits s k = distance (first_digest s k) (second_digest s k)

-- those of n records from record k on
abbrev pub counts_from : List ℕ → ℕ → ℕ → List ℕ
counts_from s k zero = []
counts_from s k (suc n) = flipped_bits s k ∷ counts_from s (suc k) n

-- the number of records in m bytes
abbrev pub pair_count : ℕ → ℕ
pair_count m = m / 64

-- one count a record
abbrev pub flipped_counts : List ℕ → List ℕ
flipped_counts s = counts_from s 0 (pair_count (length s))

-- whether records may have m bytes: a multiple of 64, and not over 65,536
abbrev pub whole_pairs : ℕ → Bool
whole_pairs m = eqb (m % 64) 0 && leb m 65536

-- What the call answers for the records s and a list of n counts: 19, s has not such a length; 4, the list has fewer counts than s has records; or the sum of
-- the records' own differences
abbrev pub flipped_answer : List ℕ → ℕ → Answer
flipped_answer s n =
    unless (whole_pairs (length s)) Pairs
    (unless (leb (pair_count (length s)) n) Output
    (Ok (total (flipped_counts s))))

-- the list l after the call: a count for each record, and the counts behind as they were; or, after a refusal, all as it was
abbrev pub counts_after : List ℕ → List ℕ → List ℕ
counts_after s l = outcome (flipped_answer s (length l)) (flipped_counts s ++ drop (pair_count (length s)) l) l
