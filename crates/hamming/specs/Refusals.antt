-- Document 02, Paper 14, in its words: what the call refuses. The statement; proofs/Refusals.antt shows it.
use Rattle.std.specs.Prelude.{◌≡◌, false, List, [], ℕ, ◌%◌, ◌≤◌, ◌<◌, length, Ok}
use Rattle.answer.specs.Answer.{refused_at}
use Rattle.answer.specs.declared.Refusal.TheVariants.{Pairs, Output}
use Rattle.answer.specs.Refuse.{is_done}
use Rattle.memory.specs.Lists.{total}
use Rattle.hamming.specs.Counts.{pair_count, flipped_counts, flipped_answer, counts_after}

-- It refuses with 19 if the records' length is no multiple of 64, and if it is over 65,536; else with 4 if the list has fewer counts than there are records;
-- and else not. So no records are fine, and are answered with 0. A refusal leaves the list as it was
pub record Refuses (s l : List ℕ) : Type 0 where
  pub partial : (length s % 64 ≡ 0 → ⊥) → flipped_answer s (length l) ≡ refused_at Pairs 0
  pub long : 65536 < length s → flipped_answer s (length l) ≡ refused_at Pairs 0
  pub short : length s % 64 ≡ 0 → length s ≤ 65536 → length l < pair_count (length s) → flipped_answer s (length l) ≡ refused_at Output 0
  pub others : length s % 64 ≡ 0 → length s ≤ 65536 → pair_count (length s) ≤ length l → flipped_answer s (length l) ≡ Ok (total (flipped_counts s))
  pub none : flipped_answer [] (length l) ≡ Ok 0
  pub unchanged : is_done (flipped_answer s (length l)) ≡ false → counts_after s l ≡ l

abbrev pub CountingRefuses : Type 0
CountingRefuses = (s l : List ℕ) → Refuses s l
