-- HMAC, by the steps of FIPS 198-1, section 4, Table 1: for a hash function H with blocks of B bytes, and over the kit's digests.
use Rattle.std.specs.Prelude.{cond, List, [], ◌∷◌, ◌++◌, ℕ, eqb, ltb, length, replicate}
use Rattle.std.specs.Int.Bits.{bit_xor}
use Rattle.digest.specs.Blocks.{filled}
use Rattle.digest.specs.Kind.{kind_for}
use Rattle.digest.specs.OneCall.{digest_for}

-- the exclusive or of two lists, byte by byte, as far as both go
abbrev pub xored : List ℕ → List ℕ → List ℕ
xored [] t = []
xored (a ∷ s) [] = []
xored (a ∷ s) (b ∷ t) = bit_xor a b ∷ xored s t

module _ (H : List ℕ → List ℕ) (B : ℕ) where
  -- the inner and the outer pad
  abbrev pub ipad : List ℕ
  ipad = replicate B 0x36

  abbrev pub opad : List ℕ
  opad = replicate B 0x5c

  -- K0, the key as one block. Step 1: a key of B bytes is K0. Step 2: a longer one is hashed, and zeros are appended to B bytes.
  -- Step 3: to a shorter one zeros are appended, to B bytes
  unfoldable pub key_block : List ℕ → List ℕ
  key_block key = cond (eqb (length key) B) key (cond (ltb B (length key)) (filled B (H key)) (filled B key))

  -- steps 4 to 6: K0 by exclusive or with ipad; the text is appended; and H is applied
  abbrev pub inner_hash : List ℕ → List ℕ → List ℕ
  inner_hash key text = H (xored (key_block key) ipad ++ text)

  -- steps 7 to 9: K0 by exclusive or with opad; the result of step 6 is appended; and H is applied
  abbrev pub hmac : List ℕ → List ℕ → List ℕ
  hmac key text = H (xored (key_block key) opad ++ inner_hash key text)

-- over the digest of size n, with the block of its kind: 64 bytes for 224 and 256, 128 for 384 and 512
abbrev pub block_for : ℕ → ℕ
block_for n = (kind_for n).block

unfoldable pub hmac_for : ℕ → List ℕ → List ℕ → List ℕ
hmac_for n key text = hmac (digest_for n) (block_for n) key text
