-- How long a digest is: each step leaves a pipe of sixteen words, and all sizes are shorter than that.
use mathlib.Core.Path.{◌≡◌, refl, ap, ◌∙◌}
use mathlib.Core.Bool.{Bool, true, false, cond}
use mathlib.Core.List.{List, ◌++◌}
use Prim.Native.Nat.{ℕ, zero, suc, ◌-◌, ◌*◌, ◌/◌, ◌≤◌}
use native.Mathlib.Omega.{arith}
use lib.Dec.{eqb, lit≤}
use lib.ListN.{length, length-drop}
use Rattle.answer.proofs.Tests.{split}
use Rattle.memory.proofs.Bytes.{length-bytes_of}
use Rattle.quasigroup.specs.Tables.{Width, width32, width64}
use Rattle.quasigroup.specs.Product.{product}
use Rattle.digest.specs.Padding.{padded}
use Rattle.digest.specs.Blocks.{block, iterated, compressed, last_bytes}
use Rattle.digest.specs.Pipe.{Pipe, written}
use Rattle.digest.specs.Start.{start224, start256, start384, start512}
use Rattle.digest.specs.Step.{word_bytes, R, step}
use Rattle.digest.specs.Kind.{known_size, narrow_kind, wide_kind}
use Rattle.digest.specs.OneCall.{digest_of, DigestLength}
use Rattle.digest.specs.Bits.{packed}
use Rattle.digest.specs.BitPadding.{padded_bits}
use Rattle.digest.specs.BitDigest.{bit_digest_of, BitDigestLength}
use Rattle.digest.proofs.Answers.{size_bound}

-- sixteen words
abbrev Full : Pipe → Type 0
Full p = length (p.first ++ p.second) ≡ 16

last_length : (n : ℕ) (l : List ℕ) → n ≤ length l → length (last_bytes n l) ≡ n
last_length n l h = length-drop (length l - n) l ∙ omega arith

module _ (s : Width) where
  step_full : (p : Pipe) (m : List ℕ) → Full (step s p m)
  unfolding step R product
  step_full p m = refl

  iterated_full : (B n : ℕ) (p : Pipe) (m : List ℕ) → Full p → Full (iterated B (step s) n p m)
  iterated_full B zero p m h = h
  iterated_full B (suc n) p m h = step_full (iterated B (step s) n p m) (block B m n)

  written_full : (p : Pipe) → Full p → length (written (word_bytes s) p) ≡ 16 * word_bytes s
  written_full p h = length-bytes_of (word_bytes s) (p.first ++ p.second) ∙ ap (λ (j : ℕ). j * word_bytes s) h

  module _ (small large : ℕ) (p q : Pipe) (fp : Full p) (fq : Full q) where
    -- behind any blocks l
    kind_length : (n : ℕ) (l : List ℕ) → n / 8 ≤ 16 * word_bytes s
        → length (last_bytes (n / 8) (written (word_bytes s) (compressed (16 * word_bytes s) (step s) (cond (eqb n small) p q) l))) ≡ n / 8
    kind_length n l h =
        let B = 16 * word_bytes s in
        let b = cond (eqb n small) p q in
        let f = iterated_full B (length l / B) b l (split Full (eqb n small) p q (λ _. fp) (λ _. fq)) in
        last_length (n / 8) (written (word_bytes s) (compressed B (step s) b l)) (omega (arith, h, written_full (compressed B (step s) b l) f))

narrow_length : (n : ℕ) (l : List ℕ) → known_size narrow_kind n ≡ true
    → length (last_bytes (n / 8) (narrow_kind.written (compressed 64 narrow_kind.step (narrow_kind.start n) l))) ≡ n / 8
narrow_length n l e = kind_length width32 224 256 start224 start256 refl refl n l (omega (arith, size_bound 224 256 n 256 (lit≤ tt) (lit≤ tt) e))

wide_length : (n : ℕ) (l : List ℕ) → known_size wide_kind n ≡ true
    → length (last_bytes (n / 8) (wide_kind.written (compressed 128 wide_kind.step (wide_kind.start n) l))) ≡ n / 8
wide_length n l e = kind_length width64 384 512 start384 start512 refl refl n l (omega (arith, size_bound 384 512 n 512 (lit≤ tt) (lit≤ tt) e))

pub digest_length : DigestLength
unfolding digest_of
digest_length n m = by (known_size wide_kind n)
  where
    by : (b : Bool) → known_size (cond b wide_kind narrow_kind) n ≡ true → length (digest_of (cond b wide_kind narrow_kind) n m) ≡ n / 8
    by true e = wide_length n (padded 128 m) e
    by false e = narrow_length n (padded 64 m) e

pub narrow_bit_length : BitDigestLength narrow_kind
unfolding bit_digest_of
narrow_bit_length n s e = narrow_length n (packed (padded_bits 512 s)) e

pub wide_bit_length : BitDigestLength wide_kind
unfolding bit_digest_of
wide_bit_length n s e = wide_length n (packed (padded_bits 1024 s)) e
