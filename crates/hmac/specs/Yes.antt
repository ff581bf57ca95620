-- Document 02, Paper 6: the comparing call "says yes exactly when its length is n/8 and its bytes are the true mark". Yes is the number 1. The statement;
-- proofs/Yes.antt shows it.
use Rattle.std.specs.Prelude.{◌≡◌, true, false, List, ℕ, ◌/◌, ◌^◌, ◌≤◌, length, take, Ok}
use Rattle.answer.specs.Number.{number_of}
use Rattle.answer.specs.Refuse.{is_done}
use Rattle.digest.specs.Kind.{Known}
use Rattle.hmac.specs.Hmac.{hmac_for}
use Rattle.hmac.specs.Calls.{hmac_answer, hmac_out, verify_answer}
use Rattle.hmac.specs.Refusals.{Fitting}

-- the tag is of the right length and the true one, under a size and for lengths that are not refused
pub record TrueTag (n : ℕ) (key text tag : List ℕ) : Type 0 where
  pub known : Known n
  pub fitting : Fitting n (length key) (length text)
  pub size : length tag ≡ n / 8
  pub bytes : tag ≡ hmac_for n key text

pub record Yes (n : ℕ) (key text tag : List ℕ) : Type 0 where
  -- yes exactly when
  pub yes : TrueTag n key text tag → number_of (verify_answer n key text tag) ≡ 1
  pub only : number_of (verify_answer n key text tag) ≡ 1 → TrueTag n key text tag
  -- of another length, or with another byte, it is no, which is 0
  pub other_length : Known n → Fitting n (length key) (length text) → (length tag ≡ n / 8 → ⊥) → verify_answer n key text tag ≡ Ok 0
  pub other_bytes : Known n → Fitting n (length key) (length text) → (tag ≡ hmac_for n key text → ⊥) → verify_answer n key text tag ≡ Ok 0
  -- a refusal is neither
  pub refused : is_done (verify_answer n key text tag) ≡ false → 2 ^ 32 ≤ number_of (verify_answer n key text tag)

pub record YesExactly : Type 0 where
  pub exactly : (n : ℕ) (key text tag : List ℕ) → Yes n key text tag
  -- and what a making call has written is answered with yes
  pub made : (n : ℕ) (key text out : List ℕ) → is_done (hmac_answer n (length key) (length text) (length out)) ≡ true
      → verify_answer n key text (take (n / 8) (hmac_out n key text out)) ≡ Ok 1
