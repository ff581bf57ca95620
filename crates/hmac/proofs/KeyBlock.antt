-- K0 by the length of the key, and how long it and a tag are.
use mathlib.Core.Path.{◌≡◌, refl, ap, sym, ◌∙◌}
use mathlib.Core.List.{List, ◌++◌, append-nil}
use Prim.Native.Nat.{ℕ, ◌-◌, ◌/◌, ◌≤◌, ◌<◌}
use native.Mathlib.Decide.{dec_le}
use native.Mathlib.Omega.{arith}
use borrow.Author.Tests.{eq-eqb, ne_eqb, lt-ltb, le-ltb}
use lib.Dec.{lit≤}
use lib.ListN.{length, replicate, length-append, length-replicate}
use Rattle.answer.proofs.Tests.{split}
use Rattle.digest.specs.Blocks.{filled}
use Rattle.digest.specs.Kind.{Kind, known_size, narrow_kind, wide_kind, Known}
use Rattle.digest.specs.OneCall.{digest_for}
use Rattle.digest.proofs.Answers.{known_bound}
use Rattle.digest.proofs.Length.{digest_length}
use Rattle.hmac.specs.Hmac.{xored, key_block, opad, inner_hash, block_for, hmac_for}
use Rattle.hmac.specs.KeyBlock.{key_block_for, KeyBlocks, BlockLengths, KeyBlocksOfSizes}

-- a block holds the longest tag, and is at most that of the wide kind
pub block_least : (n : ℕ) → 64 ≤ block_for n
block_least n = split (λ (k : Kind). 64 ≤ k.block) (known_size wide_kind n) wide_kind narrow_kind (λ _. lit≤ tt) (λ _. lit≤ tt)

pub block_most : (n : ℕ) → block_for n ≤ 128
block_most n = split (λ (k : Kind). k.block ≤ 128) (known_size wide_kind n) wide_kind narrow_kind (λ _. lit≤ tt) (λ _. lit≤ tt)

length_filled : (n : ℕ) (s : List ℕ) → length s ≤ n → length (filled n s) ≡ n
length_filled n s h = length-append s (replicate (n - length s) 0) ∙ omega (arith, length-replicate {A = ℕ} (n - length s) 0)

module _ (H : List ℕ → List ℕ) (B : ℕ) (key : List ℕ) where
  block_whole : length key ≡ B → key_block H B key ≡ key
  unfolding key_block
  block_whole e = rw (eq-eqb _ _ e)

  pub block_long : B < length key → key_block H B key ≡ filled B (H key)
  unfolding key_block
  block_long h = rw (ne_eqb (length key) B (λ e. omega arith), lt-ltb B (length key) h)

  block_short : length key < B → key_block H B key ≡ filled B key
  unfolding key_block
  block_short h = rw (ne_eqb (length key) B (λ e. omega arith), le-ltb B (length key) (omega arith))

  -- as code decides: a key that is not long is filled up, which leaves one of a whole block as it is
  pub block_filled : length key ≤ B → key_block H B key ≡ filled B key
  block_filled h = decided (dec_le B (length key))
    where
      decided : Dec (B ≤ length key) → key_block H B key ≡ filled B key
      decided (yes l) =
          let e : length key ≡ B = omega arith in
          let z : B - length key ≡ 0 = omega arith in
          block_whole e ∙ sym (append-nil key) ∙ ap (λ (j : ℕ). key ++ replicate j 0) (sym z)
      decided (no l) = block_short (omega arith)

module _ (n : ℕ) (k : Known n) where
  pub tag_bound : n / 8 ≤ block_for n
  tag_bound = omega (arith, known_bound n k, block_least n)

  pub block_length : (key : List ℕ) → length (key_block_for n key) ≡ block_for n
  block_length key = decided (dec_le (length key) (block_for n))
    where
      decided : Dec (length key ≤ block_for n) → length (key_block_for n key) ≡ block_for n
      decided (yes l) = ap length (block_filled (digest_for n) (block_for n) key l) ∙ length_filled (block_for n) key l
      decided (no l) =
          ap length (block_long (digest_for n) (block_for n) key (omega arith))
          ∙ length_filled (block_for n) (digest_for n key) (omega (arith, digest_length n key k, tag_bound))

  pub tag_length : (key text : List ℕ) → length (hmac_for n key text) ≡ n / 8
  unfolding hmac_for
  tag_length key text = digest_length n (xored (key_block_for n key) (opad (digest_for n) (block_for n)) ++ inner_hash (digest_for n) (block_for n) key text) k

  -- K0 of a digest, which is no longer than a block, is that of what was digested
  digested : (key text : List ℕ) → block_for n < length key → hmac_for n key text ≡ hmac_for n (digest_for n key) text
  unfolding hmac_for
  digested key text h =
      let B = block_for n in
      let H = digest_for n in
      let l : length (H key) ≤ B = omega (arith, digest_length n key k, tag_bound) in
      let e : key_block H B key ≡ key_block H B (H key) = block_long H B key h ∙ sym (block_filled H B (H key) l) in
      ap (λ (b : List ℕ). H (xored b (opad H B) ++ H (xored b (replicate B 0x36) ++ text))) e

  key_blocks : KeyBlocks n
  key_blocks =
      record {
        whole = λ key e. block_whole (digest_for n) (block_for n) key e;
        long = λ key h. block_long (digest_for n) (block_for n) key h
            ∙ ap (λ (j : ℕ). digest_for n key ++ replicate (block_for n - j) 0) (digest_length n key k);
        short = λ key h. block_short (digest_for n) (block_for n) key h;
        block = block_length;
        tag = tag_length;
        digested = digested;
      }

pub key_blocks_of_sizes : KeyBlocksOfSizes
key_blocks_of_sizes n k = key_blocks n k

pub block_lengths : BlockLengths
block_lengths = record { narrow224 = refl; narrow256 = refl; wide384 = refl; wide512 = refl }
