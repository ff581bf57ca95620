-- 001, section 1.4.1, and document 01, "The digest": padding, for blocks of B bytes; and document 02, Paper 7, the byte in which a message ends.
use Rattle.std.specs.Prelude.{◌≡◌, true, false, List, ◌∷◌, ◌++◌, ℕ, ◌+◌, ◌-◌, ◌*◌, ◌%◌, ◌≤◌, length, replicate}
use Rattle.memory.specs.Bytes.{bytes}
use Rattle.digest.specs.Bits.{value_of, highest}

-- The number of zeros, counted in units: bytes here, bits in BitPadding.antt. Behind t units of the message stand one unit with the one bit, these zeros, and
-- e units of the length, to the end of a block of B units
abbrev pub gap : ℕ → ℕ → ℕ → ℕ
gap B e t = (B - (t + 1 + e) % B) % B

-- what stands behind t whole bytes: the byte with the single one bit, the zero bytes, and the length in bits, lowest byte first
abbrev pub ending : ℕ → ℕ → ℕ → ℕ → List ℕ
ending B t mark bits = mark ∷ (replicate (gap B 8 t) 0 ++ bytes 8 bits)

-- behind whole bytes: the one bit is the highest of its byte, and the length is eight times the number of bytes
abbrev pub padding : ℕ → ℕ → List ℕ
padding B t = ending B t 0x80 (8 * t)

abbrev pub padded : ℕ → List ℕ → List ℕ
padded B m = m ++ padding B (length m)

-- the byte with the single one bit, where a message ends inside it: the count highest bits of its last byte, at most 7, the one bit, and zeros
unfoldable pub marked : ℕ → ℕ → ℕ
marked last count = value_of (highest count last ++ true ∷ replicate (7 - count) false)

-- "the fewest zero bytes that leave 8 bytes to the end of a block", of bits as of bytes: the gap does, and no smaller number does
pub record Fewest (B e t : ℕ) : Type 0 where
  pub ends : (t + 1 + gap B e t + e) % B ≡ 0
  pub fewest : (z : ℕ) → (t + 1 + z + e) % B ≡ 0 → gap B e t ≤ z
