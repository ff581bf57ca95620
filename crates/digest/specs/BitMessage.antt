-- A message that ends inside a byte, as a caller has it (document 02, Paper 7): bytes to feed, and the highest bits of a last byte.
use Rattle.std.specs.Prelude.{Bool, List, ◌++◌, ℕ, ◌/◌, length, drop}
use Rattle.answer.specs.Answer.{Answer}
use Rattle.answer.specs.Refuse.{outcome}
use Rattle.digest.specs.Bits.{bit_string, highest}
use Rattle.digest.specs.Refusals.{digesting_bits}
use Rattle.digest.specs.Kind.{Kind}
use Rattle.digest.specs.BitDigest.{bit_digest_of}

-- the bits of the bytes m, and then the count highest bits of a last byte
abbrev pub message : List ℕ → ℕ → ℕ → List Bool
message m last count = bit_string m ++ highest count last

-- The answer and the output for a caller who opens a hash, feeds it m, whole or in pieces, and finishes with a last byte and a count of its bits; there is no
-- one call for it (`whole` of `BitStrings` shows it)
module _ (k : Kind) where
  abbrev pub bit_digest_answer : ℕ → List ℕ → ℕ → List ℕ → Answer
  bit_digest_answer n m count out = digesting_bits k.small k.large n (length m) count (length out)

  abbrev pub bit_digest_out : ℕ → List ℕ → ℕ → ℕ → List ℕ → List ℕ
  bit_digest_out n m last count out = outcome (bit_digest_answer n m count out) (bit_digest_of k n (message m last count) ++ drop (n / 8) out) out
