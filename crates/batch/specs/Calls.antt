-- Document 02, Paper 2: "The result equals one call for each message." The statement; proofs/Calls.antt shows it.
use Rattle.std.specs.Prelude.{◌≡◌, true, false, List, [], ◌∷◌, ◌++◌, ℕ, suc, ◌*◌, ◌/◌, ◌^◌, length, take, drop, replicate, Ok}
use Rattle.answer.specs.Answer.{Answer, refused_at}
use Rattle.answer.specs.declared.Refusal.TheVariants.{Size}
use Rattle.answer.specs.Refuse.{is_done}
use Rattle.invertible.specs.Invertible.{stepped, outputs}
use Rattle.quasigroup.specs.Vector.{Below}
use Rattle.digest.specs.Kind.{known_size, kind_for}
use Rattle.digest.specs.OneCall.{one_call_answer, one_call_out}
use Rattle.batch.specs.Batch.{messages, batch_answer, batch_out}

-- a call of the one-call digest, which is lent the part of an output that starts at byte `at`
pub record PartCall : Type 0 where
  pub message : List ℕ
  pub at : ℕ

module _ (n : ℕ) where
  -- the whole output after such a call of size n, and what the call answers
  abbrev pub after : PartCall → List ℕ → List ℕ
  after c out = take c.at out ++ one_call_out n c.message (drop c.at out)

  abbrev pub answer_to : PartCall → List ℕ → Answer
  answer_to c out = one_call_answer n c.message (drop c.at out)

  -- a call for each message, the first of which is message k: that of message k is lent the part that starts at k x n/8
  abbrev pub calls_from : ℕ → List (List ℕ) → List PartCall
  calls_from k [] = []
  calls_from k (m ∷ ms) = record { message = m; at = k * (n / 8) } ∷ calls_from (suc k) ms

-- one call for each message, one after the other, leaves what the batch leaves; each of them succeeds, and the batch answers the sum of what they answer
pub record AsCalls (n : ℕ) (s ns out : List ℕ) : Type 0 where
  pub written : stepped (after n) (calls_from n 0 (messages s ns)) out ≡ batch_out n s ns out
  pub answers : outputs (after n) (answer_to n) (calls_from n 0 (messages s ns)) out ≡ replicate (length ns) (Ok (n / 8))
  pub sum : batch_answer n (length s) ns (length out) ≡ Ok (length ns * (n / 8))

-- of a size that is none of the four each of the calls is refused with 1, as the batch is, and they change nothing
pub record RefusedAlike (n : ℕ) (s ns out : List ℕ) : Type 0 where
  pub unchanged : stepped (after n) (calls_from n 0 (messages s ns)) out ≡ out
  pub answers : outputs (after n) (answer_to n) (calls_from n 0 (messages s ns)) out ≡ replicate (length ns) (refused_at Size 0)
  pub batch : batch_answer n (length s) ns (length out) ≡ refused_at Size 0

-- The first for every batch that is not refused; its lengths are below 2^32, as 32-bit numbers are. Behind the other refusals the two differ: 12 and 13 are the
-- batch's own, and where 4 refuses it, calls would write the digests that there is room for
pub record BatchIsCalls : Type 0 where
  pub accepted : (n : ℕ) (s ns out : List ℕ) → Below (2 ^ 32) ns → is_done (batch_answer n (length s) ns (length out)) ≡ true → AsCalls n s ns out
  pub unknown : (n : ℕ) (s ns out : List ℕ) → known_size (kind_for n) n ≡ false → RefusedAlike n s ns out
