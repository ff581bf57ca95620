-- Document 02, Paper 2, in its words: what a success writes and answers. The statement; proofs/Written.antt shows it.
use Rattle.std.specs.Prelude.{◌≡◌, true, List, ℕ, ◌*◌, ◌/◌, ◌<◌, length, drop, Ok}
use Rattle.answer.specs.Refuse.{is_done}
use Rattle.memory.specs.Lists.{bytes_at}
use Rattle.digest.specs.OneCall.{digest_for}
use Rattle.batch.specs.Batch.{messages, digests, digests_length, batch_answer, batch_out}
use Rattle.batch.specs.Messages.{message}

-- Digest k, from 0 on, stands at byte k x n/8 and is that of message k; the bytes behind the last digest are in their places; and the answer is the number of
-- bytes written, those of all digests
pub record Written (n : ℕ) (s ns out : List ℕ) : Type 0 where
  pub size : length (batch_out n s ns out) ≡ length out
  pub own : (k : ℕ) → k < length ns → bytes_at (n / 8) (batch_out n s ns out) (k * (n / 8)) ≡ digest_for n (message s ns k)
  pub behind : drop (digests_length n (length ns)) (batch_out n s ns out) ≡ drop (digests_length n (length ns)) out
  pub count : batch_answer n (length s) ns (length out) ≡ Ok (length (digests n (messages s ns)))

abbrev pub SuccessWrites : Type 0
SuccessWrites = (n : ℕ) (s ns out : List ℕ) → is_done (batch_answer n (length s) ns (length out)) ≡ true → Written n s ns out
