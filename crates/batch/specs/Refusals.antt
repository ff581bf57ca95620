-- Document 02, Paper 2, in its words: what the call refuses. The statement; proofs/Refusals.antt shows it.
use Rattle.std.specs.Prelude.{◌≡◌, false, List, [], ℕ, ◌≤◌, ◌<◌, length, Ok}
use Rattle.answer.specs.Answer.{refused_at}
use Rattle.answer.specs.declared.Refusal.TheVariants.{Size, Length, MessageCount, JoinedLength, Output}
use Rattle.answer.specs.Refuse.{is_done}
use Rattle.memory.specs.Lists.{total}
use Rattle.digest.specs.Kind.{known_size, kind_for, Known}
use Rattle.batch.specs.Batch.{digests_length, batch_answer, batch_out}

-- It refuses with 1 if the size is none of the four, else with 12 if there are more than 1,024 lengths, else with 13 if they do not sum to the joined length,
-- else with 4 if the output is too short for all digests, and else not. So, at the four sizes, an empty list with no bytes is answered with 0, whatever the
-- output, and changes nothing, and an empty list with bytes is refused with 13; 3 cannot occur; and a refusal leaves the output as it was
pub record Refuses (n : ℕ) (s ns out : List ℕ) : Type 0 where
  pub size : known_size (kind_for n) n ≡ false → batch_answer n (length s) ns (length out) ≡ refused_at Size 0
  pub many : Known n → 1024 < length ns → batch_answer n (length s) ns (length out) ≡ refused_at MessageCount 0
  pub unequal : Known n → length ns ≤ 1024 → (total ns ≡ length s → ⊥) → batch_answer n (length s) ns (length out) ≡ refused_at JoinedLength 0
  pub short : Known n → length ns ≤ 1024 → total ns ≡ length s → length out < digests_length n (length ns)
      → batch_answer n (length s) ns (length out) ≡ refused_at Output 0
  pub others : Known n → length ns ≤ 1024 → total ns ≡ length s → digests_length n (length ns) ≤ length out
      → batch_answer n (length s) ns (length out) ≡ Ok (digests_length n (length ns))
  pub none : Known n → (batch_answer n 0 [] (length out) ≡ Ok 0) × (batch_out n [] [] out ≡ out)
  pub bytes_without_lengths : Known n → 0 < length s → batch_answer n (length s) [] (length out) ≡ refused_at JoinedLength 0
  pub never_long : (i : ℕ) → batch_answer n (length s) ns (length out) ≡ refused_at Length i → ⊥
  pub unchanged : is_done (batch_answer n (length s) ns (length out)) ≡ false → batch_out n s ns out ≡ out

abbrev pub BatchRefuses : Type 0
BatchRefuses = (n : ℕ) (s ns out : List ℕ) → Refuses n s ns out
