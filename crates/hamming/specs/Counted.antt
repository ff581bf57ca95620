-- Document 02, Paper 14, in its words: what a success writes and answers. The statement; proofs/Counted.antt shows it.
use Rattle.std.specs.Prelude.{◌≡◌, true, List, ℕ, ◌≤◌, ◌<◌, length, get_or, take, drop, Ok}
use Rattle.answer.specs.Refuse.{is_done}
use Rattle.memory.specs.Lists.{total}
use Rattle.hamming.specs.Counts.{flipped_bits, pair_count, flipped_counts, flipped_answer, counts_after}

-- Count k is the number of bits in which the digests of record k differ, 0 to 256; the counts behind the records' are in their places; and the answer is the
-- sum of the counts that were written, at most 262,144
pub record Counted (s l : List ℕ) : Type 0 where
  pub size : length (counts_after s l) ≡ length l
  pub own : (k : ℕ) → k < pair_count (length s) → get_or (counts_after s l) k 0 ≡ flipped_bits s k
  pub most : (k : ℕ) → k < pair_count (length s) → get_or (counts_after s l) k 0 ≤ 256
  pub behind : drop (pair_count (length s)) (counts_after s l) ≡ drop (pair_count (length s)) l
  pub sum : flipped_answer s (length l) ≡ Ok (total (take (pair_count (length s)) (counts_after s l)))
  pub sum_most : total (flipped_counts s) ≤ 262144

abbrev pub SuccessCounts : Type 0
SuccessCounts = (s l : List ℕ) → is_done (flipped_answer s (length l)) ≡ true → Counted s l
