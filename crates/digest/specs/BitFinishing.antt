-- Document 02, Paper 7, in its words: what finishing with bits of a last byte refuses, which bits matter, the count 0, and the largest total. The statement;
-- proofs/BitFinishing.antt shows it.
use Rattle.std.specs.Prelude.{◌≡◌, true, false, List, ℕ, ◌+◌, ◌-◌, ◌*◌, ◌/◌, ◌^◌, ◌≤◌, ◌<◌, length, Ok}
use Rattle.answer.specs.Answer.{refused_at}
use Rattle.answer.specs.declared.Refusal.TheVariants.{State, Output, BitCount}
use Rattle.answer.specs.Refuse.{is_done}
use Rattle.digest.specs.Refusals.{limit}
use Rattle.digest.specs.Kind.{Kind, known_size}
use Rattle.digest.specs.State.{Hash, formed, finish_answer, finish_out, finish_bits_answer, finish_bits_out}
use Rattle.digest.specs.BitMessage.{message, bit_digest_answer}

-- It refuses with 2, then with 15 if the count is above 7, then with 4, and else not; a refusal leaves the output as it was
pub record BitRefuses (k : Kind) (h : Hash) (last count : ℕ) (out : List ℕ) : Type 0 where
  pub state : formed k h ≡ false → finish_bits_answer k h count out ≡ refused_at State 0
  pub bits : formed k h ≡ true → 7 < count → finish_bits_answer k h count out ≡ refused_at BitCount 0
  pub short : formed k h ≡ true → count ≤ 7 → length out < h.size / 8 → finish_bits_answer k h count out ≡ refused_at Output 0
  pub others : formed k h ≡ true → count ≤ 7 → h.size / 8 ≤ length out → finish_bits_answer k h count out ≡ Ok (h.size / 8)
  pub unchanged : is_done (finish_bits_answer k h count out) ≡ false → finish_bits_out k h last count out ≡ out

pub record BitFinishing (k : Kind) : Type 0 where
  pub refuses : (h : Hash) (last count : ℕ) (out : List ℕ) → BitRefuses k h last count out
  -- The other bits of the last byte do not matter: bytes that agree when they are shifted to the right by 8 - count, that is in their count highest bits, write
  -- the same. The answer does not depend on the last byte at all
  pub other_bits : (h : Hash) (last other count : ℕ) (out : List ℕ) → last / 2 ^ (8 - count) ≡ other / 2 ^ (8 - count)
      → finish_bits_out k h last count out ≡ finish_bits_out k h other count out
  -- the count 0 is the finishing of document 01, whatever the last byte
  pub no_bits : (h : Hash) (last : ℕ) (out : List ℕ)
      → (finish_bits_answer k h 0 out ≡ finish_answer k h out) × (finish_bits_out k h last 0 out ≡ finish_out k h out)
  -- no accepted finishing has more than 2^64 - 1 bits, and 2^61 - 1 bytes with 7 bits are accepted and have just as many
  pub most : (h : Hash) (count : ℕ) (out : List ℕ) → is_done (finish_bits_answer k h count out) ≡ true → 8 * h.total + count ≤ 2 ^ 64 - 1
  pub largest : (n : ℕ) (m : List ℕ) (last : ℕ) (out : List ℕ) → known_size k n ≡ true → length m ≡ limit → n / 8 ≤ length out
      → (bit_digest_answer k n m 7 out ≡ Ok (n / 8)) × (length (message m last 7) ≡ 2 ^ 64 - 1)
