-- The digest of a bit string: 001, Table 2.6 over section 1.4.1, for strings that need not be whole bytes (document 02, Paper 7).
use Rattle.std.specs.Prelude.{◌≡◌, Bool, true, List, ℕ, ◌*◌, ◌/◌, length}
use Rattle.digest.specs.Bits.{packed}
use Rattle.digest.specs.BitPadding.{padded_bits}
use Rattle.digest.specs.Blocks.{compressed, last_bytes}
use Rattle.digest.specs.Kind.{Kind, known_size}

-- the last n/8 bytes of the pipe behind all blocks of the padded string
unfoldable pub bit_digest_of : Kind → ℕ → List Bool → List ℕ
bit_digest_of k n s = last_bytes (n / 8) (k.written (compressed k.block k.step (k.start n) (packed (padded_bits (8 * k.block) s))))

-- of the kind's sizes, a digest of size n has n/8 bytes
abbrev pub BitDigestLength : Kind → Type 0
BitDigestLength k = (n : ℕ) (s : List Bool) → known_size k n ≡ true → length (bit_digest_of k n s) ≡ n / 8
