-- The digest of a whole message (001, Table 2.6), and the call that makes it, for the four sizes.
use Rattle.std.specs.Prelude.{◌≡◌, ◌||◌, List, ◌++◌, ℕ, ◌/◌, length, drop}
use Rattle.answer.specs.Answer.{Answer}
use Rattle.digest.specs.Padding.{padded}
use Rattle.digest.specs.Blocks.{compressed, last_bytes}
use Rattle.answer.specs.Refuse.{outcome}
use Rattle.digest.specs.Refusals.{digesting}
use Rattle.digest.specs.Kind.{Kind, known_size, narrow_kind, wide_kind, kind_for, Known}

-- within one kind
module _ (k : Kind) where
  -- the last n/8 bytes of the pipe behind all blocks of the padded message
  unfoldable pub digest_of : ℕ → List ℕ → List ℕ
  digest_of n m = last_bytes (n / 8) (k.written (compressed k.block k.step (k.start n) (padded k.block m)))

  abbrev pub digest_answer : ℕ → List ℕ → List ℕ → Answer
  digest_answer n m out = digesting k.small k.large n (length m) (length out)

  abbrev pub digest_out : ℕ → List ℕ → List ℕ → List ℕ
  digest_out n m out = outcome (digest_answer n m out) (digest_of n m ++ drop (n / 8) out) out

-- the digest of size n, by the kind of the size
abbrev pub digest_for : ℕ → List ℕ → List ℕ
digest_for n m = digest_of (kind_for n) n m

-- of any size: one of neither kind is refused as the narrow kind refuses it, so what is accepted are the four sizes (`FourSizes`)
abbrev pub one_call_answer : ℕ → List ℕ → List ℕ → Answer
one_call_answer n m out = digest_answer (kind_for n) n m out

abbrev pub one_call_out : ℕ → List ℕ → List ℕ → List ℕ
one_call_out n m out = digest_out (kind_for n) n m out

-- the sizes that the one call accepts
pub record FourSizes : Type 0 where
  pub sizes : (n : ℕ) → known_size (kind_for n) n ≡ (known_size narrow_kind n || known_size wide_kind n)

-- of the four sizes, a digest of size n has n/8 bytes
abbrev pub DigestLength : Type 0
DigestLength = (n : ℕ) (m : List ℕ) → Known n → length (digest_for n m) ≡ n / 8
