-- The code's way to a tag, by two digests of two parts each, and to the answer of a comparison.
use Rattle.std.specs.Prelude.{Ok}
use mathlib.Core.Path.{◌≡◌, ap, ap₂, sym, ◌∙◌}
use mathlib.Core.Bool.{Bool, true, false, not, cond}
use mathlib.Core.List.{List, [], ◌∷◌, ◌++◌}
use Prim.Native.Nat.{ℕ, ◌+◌, ◌/◌, ◌≤◌}
use native.Mathlib.Omega.{arith}
use lib.ListN.{length, take, drop, replicate, length-append, length-replicate}
use lib.Seq.{take_at}
use Rattle.answer.specs.Answer.{Answer}
use Rattle.answer.specs.Refuse.{is_done}
use Rattle.answer.proofs.Tests.{decide, goes_on, stops}
use Rattle.digest.specs.Refusals.{limit}
use Rattle.digest.specs.Kind.{known_size, kind_for, Known}
use Rattle.digest.specs.OneCall.{digest_for, one_call_out}
use Rattle.digest.proofs.Answers.{known_bound}
use Rattle.digest.proofs.OneCall.{one_call_writes}
use Rattle.digest.proofs.Length.{digest_length}
use Rattle.hmac.specs.Hmac.{xored, inner_hash, block_for, hmac_for}
use Rattle.hmac.specs.KeyBlock.{key_block_for}
use Rattle.hmac.specs.Calls.{same, fitting, keying, verify_answer}
use Rattle.hmac.specs.Refusals.{Fitting}
use Rattle.hmac.proofs.KeyBlock.{block_most, tag_bound, block_length, tag_length}
use Rattle.hmac.proofs.Padded.{block_padded}
use Rattle.hmac.proofs.Tests.{unknown_size, too_long, passed, is_fitting, keying_done}

xored_length : (s t : List ℕ) → length (xored s t) ≤ length s
xored_length [] t = omega arith
xored_length (x ∷ s) [] = omega arith
xored_length (x ∷ s) (y ∷ t) = omega (arith, xored_length s t)

module _ (n : ℕ) (k : Known n) where
  -- two parts of which the first is not longer than a block
  parts_fit : (s t : List ℕ) → length s ≤ block_for n → length t + block_for n ≤ limit → length (s ++ t) ≤ limit
  parts_fit s t h g = omega (arith, length-append s t)

  module _ (key text : List ℕ) (f : Fitting n (length key) (length text)) where
    -- K0 with a pad of a block
    abbrev with_pad : ℕ → List ℕ
    with_pad pad = xored (key_block_for n key) (replicate (block_for n) pad)

    with_pad_length : (pad : ℕ) → length (with_pad pad) ≤ block_for n
    with_pad_length pad = omega (arith, xored_length (key_block_for n key) (replicate (block_for n) pad), block_length n k key)

    abbrev inner : List ℕ
    inner = inner_hash (digest_for n) (block_for n) key text

    -- x is the array of the key, i and o those of the inner and the outer block, d that of the inner digest
    module _ {b : ℕ} (eb : b ≡ block_for n) (x : List ℕ) (ex : take (block_for n) x ≡ key_block_for n key) where
      first_block : (pad : ℕ) {r : List ℕ} → r ≡ xored x (replicate 128 pad) → take b r ≡ with_pad pad
      first_block pad {r} e =
          ap (λ (j : ℕ). take j r) eb ∙ block_padded (block_for n) pad x (block_most n) e ∙ ap (λ (s : List ℕ). xored s (replicate (block_for n) pad)) ex

      inner_written : {i d : List ℕ} → i ≡ xored x (replicate 128 0x36) → d ≡ one_call_out n (take b i ++ text) (replicate 64 0) → take (n / 8) d ≡ inner
      inner_written {i} {d} ei ed =
          let s = with_pad 0x36 in
          let m = block_most n in
          let l = parts_fit s text (with_pad_length 0x36) (omega (arith, f.of_message)) in
          let w = (one_call_writes n (s ++ text) (replicate 64 0) k l (omega (arith, known_bound n k, length-replicate {A = ℕ} 64 0))).1 in
          ap (take (n / 8)) (ed ∙ ap (λ (p : List ℕ). one_call_out n (p ++ text) (replicate 64 0)) (first_block 0x36 ei) ∙ w)
          ∙ take_at (digest_for n (s ++ text)) (drop (n / 8) (replicate 64 0)) (n / 8) (digest_length n (s ++ text) k)

      pub tag_written : (out : List ℕ) → n / 8 ≤ length out → {i o d last : List ℕ}
          → i ≡ xored x (replicate 128 0x36) → o ≡ xored x (replicate 128 0x5c)
          → d ≡ one_call_out n (take b i ++ text) (replicate 64 0) → last ≡ one_call_out n (take b o ++ take (n / 8) d) out
          → last ≡ hmac_for n key text ++ drop (n / 8) out
      unfolding hmac_for
      tag_written out h {i} {o} {d} ei eo ed el =
          let s = with_pad 0x5c in
          let m = block_most n in
          let t = tag_bound n k in
          let l = parts_fit s inner (with_pad_length 0x5c) (omega (arith, digest_length n (with_pad 0x36 ++ text) k)) in
          el ∙ ap₂ {C = List ℕ} (λ p q. one_call_out n (p ++ q) out) (first_block 0x5c eo) (inner_written ei ed)
          ∙ (one_call_writes n (s ++ inner) out k l h).1

-- a refusal of both calls does not depend on what would be answered
refused_alike : (n key text : ℕ) (other : Answer) → is_done (keying n key text (Ok 0)) ≡ false → keying n key text (Ok 0) ≡ keying n key text other
refused_alike n key text other d = decide (known_size (kind_for n) n) known unknown
  where
    unknown : known_size (kind_for n) n ≡ false → keying n key text (Ok 0) ≡ keying n key text other
    unknown e = unknown_size n key text (Ok 0) e ∙ sym (unknown_size n key text other e)

    known : Known n → keying n key text (Ok 0) ≡ keying n key text other
    known k =
        decide (fitting n key text)
        (λ e. let z : true ≡ false = sym (ap is_done (passed n key text (Ok 0) k e)) ∙ d in cc)
        (λ e. too_long n key text (Ok 0) k e ∙ sym (too_long n key text other k e))

-- the answer r of the tests, and b what was found of the tag
module _ (n : ℕ) (key text tag : List ℕ) {r : Answer} (e : r ≡ keying n (length key) (length text) (Ok 0)) {t : Bool} (d : t ≡ is_done r) where
  pub not_tested : not t ≡ true → r ≡ verify_answer n key text tag
  not_tested h = e ∙ refused_alike n (length key) (length text) _ (ap is_done (sym e) ∙ stops d h)

  module _ (h : not t ≡ false) where
    pub tested : Known n × Fitting n (length key) (length text)
    tested =
        let a = keying_done n (length key) (length text) (Ok 0) (ap is_done (sym e) ∙ goes_on d h) in
        (a.0, a.1)

    pub verified : {x : List ℕ} {b : Bool} → x ≡ hmac_for n key text ++ drop (n / 8) (replicate 64 0) → b ≡ same tag (take (n / 8) x) → (v : Bool) → b ≡ v
        → Ok (cond v 1 0) ≡ verify_answer n key text tag
    verified {x} ex eb v ev =
        let k = tested.0 in
        let p : take (n / 8) x ≡ hmac_for n key text =
        ap (take (n / 8)) ex ∙ take_at (hmac_for n key text) (drop (n / 8) (replicate 64 0)) (n / 8) (tag_length n k key text) in
        ap (λ (y : Bool). Ok (cond y 1 0)) (sym ev ∙ eb ∙ ap (same tag) p)
        ∙ sym (passed n (length key) (length text) _ k (is_fitting n (length key) (length text) tested.1))
