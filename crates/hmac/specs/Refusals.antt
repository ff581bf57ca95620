-- Document 02, Paper 6, in its words: what the two calls refuse. The statement; proofs/Refusals.antt shows it.
use Rattle.std.specs.Prelude.{◌≡◌, true, false, List, ℕ, ◌-◌, ◌/◌, ◌≤◌, ◌<◌, length, Ok}
use Rattle.answer.specs.Answer.{Answer, refused_at}
use Rattle.answer.specs.declared.Refusal.TheVariants.{Size, Length, Output}
use Rattle.answer.specs.Refuse.{is_done}
use Rattle.digest.specs.Refusals.{limit}
use Rattle.digest.specs.Kind.{known_size, kind_for, Known}
use Rattle.hmac.specs.Hmac.{block_for}
use Rattle.hmac.specs.Calls.{hmac_answer, hmac_out, verify_answer}

-- a key and a message of so many bytes are not too long for size n
pub record Fitting (n key text : ℕ) : Type 0 where
  pub of_key : key ≤ limit
  pub of_message : text ≤ limit - block_for n

-- a is refused with 1 if the size is none of the four; else with 3 if the key is over 2^61 - 1 bytes, and if the message is over that less one block
pub record BothRefuse (n key text : ℕ) (a : Answer) : Type 0 where
  pub size : known_size (kind_for n) n ≡ false → a ≡ refused_at Size 0
  pub long_key : Known n → limit < key → a ≡ refused_at Length 0
  pub long_message : Known n → limit - block_for n < text → a ≡ refused_at Length 0

-- making refuses so, then with 4 if the output is shorter than n/8, and else not; a refusal leaves the output as it was
pub record MakingRefuses (n : ℕ) (key text out : List ℕ) : Type 0 where
  pub both : BothRefuse n (length key) (length text) (hmac_answer n (length key) (length text) (length out))
  pub short : Known n → Fitting n (length key) (length text) → length out < n / 8
      → hmac_answer n (length key) (length text) (length out) ≡ refused_at Output 0
  pub others : Known n → Fitting n (length key) (length text) → n / 8 ≤ length out
      → hmac_answer n (length key) (length text) (length out) ≡ Ok (n / 8)
  pub unchanged : is_done (hmac_answer n (length key) (length text) (length out)) ≡ false → hmac_out n key text out ≡ out

-- comparing refuses so, and else not
pub record VerifyingRefuses (n : ℕ) (key text tag : List ℕ) : Type 0 where
  pub both : BothRefuse n (length key) (length text) (verify_answer n key text tag)
  pub others : Known n → Fitting n (length key) (length text) → is_done (verify_answer n key text tag) ≡ true

pub record HmacRefuses : Type 0 where
  pub making : (n : ℕ) (key text out : List ℕ) → MakingRefuses n key text out
  pub verifying : (n : ℕ) (key text tag : List ℕ) → VerifyingRefuses n key text tag
