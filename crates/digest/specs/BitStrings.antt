-- Agreement over bit strings (document 02, Paper 7): what feeding and finishing write is the digest of a bit string, and each bit string of at most
-- 2^64 - 1 bits is reached. The statement; proofs/BitStrings.antt shows it.
use Rattle.std.specs.Prelude.{◌≡◌, Bool, true, false, List, ◌++◌, ℕ, ◌-◌, ◌/◌, ◌%◌, ◌^◌, ◌≤◌, ◌<◌, length, drop, replicate, Ok}
use Rattle.memory.specs.Bytes.{Bytes}
use Rattle.digest.specs.Bits.{value_of, bit_string, packed, remainder, highest}
use Rattle.digest.specs.Kind.{Kind, known_size, kind_for}
use Rattle.digest.specs.State.{open_state, feed_all, finish_bits_answer, finish_bits_out}
use Rattle.digest.specs.OneCall.{digest_of, digest_for}
use Rattle.digest.specs.BitDigest.{bit_digest_of}
use Rattle.digest.specs.BitMessage.{bit_digest_answer, bit_digest_out}
use Rattle.digest.specs.Cutting.{concatenated, in_pieces_bits, accepted}

-- a byte that begins with what is left of a bit string behind its whole bytes
abbrev pub last_byte : List Bool → ℕ
last_byte s = value_of (remainder s ++ replicate (8 - length s % 8) false)

-- packing bytes' bits gives the bytes
abbrev pub PackedBytes : Type 0
PackedBytes = (m : List ℕ) → Bytes m → packed (bit_string m) ≡ m

-- a bit string is its whole bytes and what is left, fewer than eight bits, which are the highest of a byte
pub record Parts (s : List Bool) : Type 0 where
  pub whole : bit_string (packed s) ++ remainder s ≡ s
  pub bytes : Bytes (packed s)
  pub count : length (remainder s) ≡ length s % 8
  pub byte : last_byte s < 256
  pub bits : highest (length s % 8) (last_byte s) ≡ remainder s

pub record BitStrings (k : Kind) : Type 0 where
  -- the digest of document 01 is that of the bits of its bytes
  pub of_bytes : (n : ℕ) (m : List ℕ) → Bytes m → digest_of k n m ≡ bit_digest_of k n (bit_string m)
  -- For every size, every list of pieces, every last byte, count and output, refusals too: a hash that was fed the pieces writes the digest of the bits of
  -- their bytes and then the count highest bits of the last byte
  pub whole : (n : ℕ) (ss : List (List ℕ)) (last count : ℕ) (out : List ℕ) → Bytes (concatenated ss)
      → in_pieces_bits k n ss last count out
      ≡ record { answer = bit_digest_answer k n (concatenated ss) count out; out = bit_digest_out k n (concatenated ss) last count out }
  -- a caller who goes on behind refused feedings gets that of the accepted pieces
  pub goes_on : (n : ℕ) (ss : List (List ℕ)) (last count : ℕ) (out : List ℕ) → known_size k n ≡ true → Bytes (accepted k (open_state k n) ss)
      → (finish_bits_answer k (feed_all k (open_state k n) ss) count out ≡ bit_digest_answer k n (accepted k (open_state k n) ss) count out)
      × (finish_bits_out k (feed_all k (open_state k n) ss) last count out ≡ bit_digest_out k n (accepted k (open_state k n) ss) last count out)
  -- And the other way round, for every bit string: its whole bytes fed in any cut, and finishing with a byte that begins with what is left, write its digest.
  -- `last_byte s` is such a byte (`Parts`)
  pub every : (n : ℕ) (s : List Bool) (ss : List (List ℕ)) (last : ℕ) (out : List ℕ) → known_size k n ≡ true → length s ≤ 2 ^ 64 - 1
      → concatenated ss ≡ packed s → highest (length s % 8) last ≡ remainder s → n / 8 ≤ length out
      → in_pieces_bits k n ss last (length s % 8) out ≡ record { answer = Ok (n / 8); out = bit_digest_of k n s ++ drop (n / 8) out }

-- of the four sizes, each in its kind: the digest of the one call is that of the bits of its message
abbrev pub OneCallBits : Type 0
OneCallBits = (n : ℕ) (m : List ℕ) → Bytes m → digest_for n m ≡ bit_digest_of (kind_for n) n (bit_string m)
