-- 001, section 1.4.1, for a message of l bits and blocks of B bits: "Append the bit "1" to the end of the message, followed by k zero bits, where k is the
-- smallest, non-negative solution" of l + 1 + k ≡ B - 64 modulo B, "then append the 64-bit block that is equal to the number l". By document 01 that number
-- is 8 bytes, lowest byte first; it is l itself for at most 2^64 - 1 bits (`LengthFits`).
use Rattle.std.specs.Prelude.{◌≡◌, Bool, true, false, List, ◌∷◌, ◌++◌, ℕ, ◌+◌, ◌-◌, ◌*◌, ◌%◌, ◌^◌, ◌≤◌, length, replicate}
use Rattle.memory.specs.Bytes.{bytes, word_at}
use Rattle.digest.specs.Bits.{bit_string}
use Rattle.digest.specs.Padding.{gap, Fewest}

unfoldable pub padded_bits : ℕ → List Bool → List Bool
padded_bits B s = s ++ true ∷ (replicate (gap B 64 (length s)) false ++ bit_string (bytes 8 (length s)))

-- for blocks of B bytes, which are 8 * B bits
pub record BitPadding (B : ℕ) : Type 0 where
  -- the padded string is whole blocks
  pub blocks : (s : List Bool) → length (padded_bits (8 * B) s) % (8 * B) ≡ 0
  -- with the fewest zeros
  pub fewest : (l : ℕ) → Fewest (8 * B) 64 l
  -- in 001's words: l + 1 + k is 448 modulo 512, or 960 modulo 1024, and the number of zeros is the smallest such k
  pub solves : (l : ℕ) → (l + 1 + gap (8 * B) 64 l) % (8 * B) ≡ 8 * B - 64
  pub smallest : (l k : ℕ) → (l + 1 + k) % (8 * B) ≡ 8 * B - 64 → gap (8 * B) 64 l ≤ k
  -- Behind t bytes and count bits: 7 - count zeros to the end of the byte, and then the zero bytes that t whole bytes have. So t bytes and count bits fill as
  -- many blocks as t bytes
  pub zeros : (t count : ℕ) → count ≤ 7 → gap (8 * B) 64 (8 * t + count) ≡ 7 - count + 8 * gap B 8 t

-- read again, the 8 bytes are the number of bits
abbrev pub LengthFits : Type 0
LengthFits = (l : ℕ) → l ≤ 2 ^ 64 - 1 → word_at 8 (bytes 8 l) 0 ≡ l
