-- Document 02, Paper 6, and FIPS 198-1, section 4: "a key longer than a block is digested first", and one of exactly a block is not. K0 by the length of the
-- key, and how long it and a tag are. The statement, for the four sizes; proofs/KeyBlock.antt shows it.
use Rattle.std.specs.Prelude.{◌≡◌, List, ◌++◌, ℕ, ◌-◌, ◌/◌, ◌<◌, length, replicate}
use Rattle.digest.specs.Kind.{Known}
use Rattle.digest.specs.OneCall.{digest_for}
use Rattle.hmac.specs.Hmac.{key_block, block_for, hmac_for}

-- K0 at size n
abbrev pub key_block_for : ℕ → List ℕ → List ℕ
key_block_for n key = key_block (digest_for n) (block_for n) key

pub record KeyBlocks (n : ℕ) : Type 0 where
  pub whole : (key : List ℕ) → length key ≡ block_for n → key_block_for n key ≡ key
  pub long : (key : List ℕ) → block_for n < length key → key_block_for n key ≡ digest_for n key ++ replicate (block_for n - n / 8) 0
  pub short : (key : List ℕ) → length key < block_for n → key_block_for n key ≡ key ++ replicate (block_for n - length key) 0
  -- always one block
  pub block : (key : List ℕ) → length (key_block_for n key) ≡ block_for n
  -- the tag has n/8 bytes
  pub tag : (key text : List ℕ) → length (hmac_for n key text) ≡ n / 8
  -- so a long key has the tags of its digest
  pub digested : (key text : List ℕ) → block_for n < length key → hmac_for n key text ≡ hmac_for n (digest_for n key) text

-- where the block is 64 bytes for the narrow sizes and 128 for the wide ones
pub record BlockLengths : Type 0 where
  pub narrow224 : block_for 224 ≡ 64
  pub narrow256 : block_for 256 ≡ 64
  pub wide384 : block_for 384 ≡ 128
  pub wide512 : block_for 512 ≡ 128

abbrev pub KeyBlocksOfSizes : Type 0
KeyBlocksOfSizes = (n : ℕ) → Known n → KeyBlocks n
