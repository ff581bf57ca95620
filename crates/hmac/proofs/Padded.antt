-- The code's blocks: an array with room for a block of either kind, of which the first bytes are K0, and the same by exclusive or with a pad.
use mathlib.Core.Path.{◌≡◌, refl, ap, ap₂, sym, ◌∙◌}
use mathlib.Core.List.{List, [], ◌∷◌, ◌++◌, map, append-nil}
use Prim.Native.Nat.{ℕ, zero, suc, ◌+◌, ◌-◌, ◌/◌, ◌≤◌, ◌<◌}
use native.Mathlib.Nat.{zero-add}
use native.Mathlib.Numerals.{add-one}
use native.Mathlib.Omega.{arith}
use lib.Bits.{bit_xor}
use lib.ListN.{length, get_or, set, take, drop, replicate, length-append, length-map, length-replicate, replicate-append-replicate}
use lib.Seq.{take-suc, drop-cons, get_or_at, set_at, take_at, drop_at, take-length, drop-length, take-append-add, length-take-le, append_snoc}
use Rattle.digest.specs.Blocks.{filled}
use Rattle.digest.specs.Kind.{Known}
use Rattle.digest.specs.Refusals.{limit}
use Rattle.digest.specs.OneCall.{digest_for, one_call_out}
use Rattle.digest.proofs.Answers.{known_bound}
use Rattle.digest.proofs.OneCall.{one_call_writes}
use Rattle.digest.proofs.Length.{digest_length}
use Rattle.hmac.specs.Hmac.{xored, block_for}
use Rattle.hmac.specs.KeyBlock.{key_block_for}
use Rattle.hmac.proofs.KeyBlock.{block_most, tag_bound, block_long, block_filled}

-- ---- zeros

replicate_parts : (n m : ℕ) (a : ℕ) → m ≤ n → replicate n a ≡ replicate m a ++ replicate (n - m) a
replicate_parts n m a h =
    let e : n ≡ m + (n - m) = omega arith in
    ap (λ (j : ℕ). replicate j a) e ∙ sym (replicate-append-replicate m (n - m) a)

take_replicate : (m n : ℕ) (a : ℕ) → m ≤ n → take m (replicate n a) ≡ replicate m a
take_replicate m n a h = ap (take m) (replicate_parts n m a h) ∙ take_at (replicate m a) (replicate (n - m) a) m (length-replicate m a)

drop_replicate : (m n : ℕ) (a : ℕ) → m ≤ n → drop m (replicate n a) ≡ replicate (n - m) a
drop_replicate m n a h = ap (drop m) (replicate_parts n m a h) ∙ drop_at (replicate m a) (replicate (n - m) a) m (length-replicate m a)

-- s at the front of zeros, as far as a block of B bytes goes
filled_front : (s : List ℕ) (B : ℕ) → length s ≤ B → B ≤ 128 → take B (s ++ drop (length s) (replicate 128 0)) ≡ filled B s
filled_front s B h g =
    let e : B ≡ length s + (B - length s) = omega arith in
    ap (λ (l : List ℕ). take B (s ++ l)) (drop_replicate (length s) 128 0 (omega arith))
    ∙ ap (λ (j : ℕ). take j (s ++ replicate (128 - length s) 0)) e
    ∙ take-append-add s (replicate (128 - length s) 0) (B - length s)
    ∙ ap (λ (l : List ℕ). s ++ l) (take_replicate (B - length s) (128 - length s) 0 (omega arith))

-- as a copy leaves it
at_front : (s : List ℕ) → s ++ drop (0 + length s) (replicate 128 0) ≡ s ++ drop (length s) (replicate 128 0)
at_front s = ap (λ (j : ℕ). s ++ drop j (replicate 128 0)) (zero-add (length s))

-- ---- K0
module _ (n : ℕ) (key : List ℕ) (k : Known n) where
  -- the key itself
  pub copied_block : length key ≤ block_for n → {r : List ℕ} → r ≡ key ++ drop (0 + length key) (replicate 128 0)
      → take (block_for n) r ≡ key_block_for n key
  copied_block h e =
      ap (take (block_for n)) (e ∙ at_front key) ∙ filled_front key (block_for n) h (block_most n) ∙ sym (block_filled (digest_for n) (block_for n) key h)

  -- or a long key's digest, which stands in an array of its own, d
  module _ (h : length key ≤ limit) {d : List ℕ} (ed : d ≡ one_call_out n key (replicate 64 0)) where
    stands : d ≡ digest_for n key ++ drop (n / 8) (replicate 64 0)
    stands = ed ∙ (one_call_writes n key (replicate 64 0) k h (omega (arith, known_bound n k, length-replicate {A = ℕ} 64 0))).1

    front : take (n / 8) d ≡ digest_for n key
    front = ap (take (n / 8)) stands ∙ take_at (digest_for n key) (drop (n / 8) (replicate 64 0)) (n / 8) (digest_length n key k)

    pub digest_within : n / 8 ≤ length d
    digest_within =
        omega (arith, ap length stands, length-append (digest_for n key) (drop (n / 8) (replicate 64 0)), digest_length n key k)

    pub digest_bytes : n / 8 ≡ length (take (n / 8) d)
    digest_bytes = sym (ap length front ∙ digest_length n key k)

    pub digest_fits : 0 + length (take (n / 8) d) ≤ 128
    digest_fits = omega (arith, digest_bytes, known_bound n k)

    pub digested_block : block_for n < length key → {r : List ℕ} → r ≡ take (n / 8) d ++ drop (0 + length (take (n / 8) d)) (replicate 128 0)
        → take (block_for n) r ≡ key_block_for n key
    digested_block g er =
        ap (take (block_for n)) (er ∙ at_front (take (n / 8) d) ∙ ap (λ (s : List ℕ). s ++ drop (length s) (replicate 128 0)) front)
        ∙ filled_front (digest_for n key) (block_for n) (omega (arith, digest_length n key k, tag_bound n k)) (block_most n)
        ∙ sym (block_long (digest_for n) (block_for n) key g)

-- ---- a pad
module _ (pad : ℕ) where
  abbrev by_pad : List ℕ → List ℕ
  by_pad s = map (λ x. bit_xor x pad) s

  xored_map : (s : List ℕ) (n : ℕ) → length s ≤ n → xored s (replicate n pad) ≡ by_pad s
  xored_map [] n h = refl
  xored_map (x ∷ s) zero h = absurd (omega arith)
  xored_map (x ∷ s) (suc n) h = ap (λ (l : List ℕ). bit_xor x pad ∷ l) (xored_map s n (omega arith))

  -- the first i bytes of r have it
  pub record Padded (s : List ℕ) (i : ℕ) (r : List ℕ) : Type 0 where
    pub within : i ≤ length s
    pub stands : r ≡ by_pad (take i s) ++ drop i s

  pub none_padded : (s : List ℕ) → Padded s 0 s
  none_padded s = record { within = omega arith; stands = refl }

  map-append : (s t : List ℕ) → by_pad (s ++ t) ≡ by_pad s ++ by_pad t
  map-append [] t = refl
  map-append (x ∷ s) t = ap (λ (l : List ℕ). bit_xor x pad ∷ l) (map-append s t)

  pub one_padded : {s r : List ℕ} {i : ℕ} → Padded s i r → i < length s → Padded s (i + 1) (set r i (bit_xor (get_or r i 0) pad))
  one_padded {s} {r} {i} p h =
      let x = get_or s i 0 in
      let y = bit_xor x pad in
      let l : length (by_pad (take i s)) ≡ i = length-map (take i s) (λ x. bit_xor x pad) ∙ length-take-le i s p.within in
      let r_is : r ≡ by_pad (take i s) ++ x ∷ drop (suc i) s = p.stands ∙ ap (λ (q : List ℕ). by_pad (take i s) ++ q) (drop-cons s i 0 h) in
      let x_is : get_or r i 0 ≡ x = ap (λ (q : List ℕ). get_or q i 0) r_is ∙ get_or_at (by_pad (take i s)) x (drop (suc i) s) 0 i l in
      let e : set r i y ≡ by_pad (take i s) ++ y ∷ drop (suc i) s =
      ap (λ (q : List ℕ). set q i y) r_is ∙ set_at (by_pad (take i s)) x (drop (suc i) s) y i l in
      let f : by_pad (take (suc i) s) ≡ by_pad (take i s) ++ (y ∷ []) = ap by_pad (take-suc s i 0 h) ∙ map-append (take i s) (x ∷ []) in
      rw (add-one i, x_is) record {
        within = h;
        stands = e ∙ sym (append_snoc (by_pad (take i s)) y (drop (suc i) s)) ∙ ap (λ (q : List ℕ). q ++ drop (suc i) s) (sym f);
      }

  pub all_padded : {s r : List ℕ} {i : ℕ} → Padded s i r → length s ≤ i → r ≡ xored s (replicate (length s) pad)
  all_padded {s} {r} {i} p h =
      let e : i ≡ length s = omega (arith, p.within) in
      p.stands ∙ ap (λ (j : ℕ). by_pad (take j s) ++ drop j s) e
      ∙ ap₂ {C = List ℕ} (λ a b. by_pad a ++ b) (take-length s) (drop-length s) ∙ append-nil (by_pad s) ∙ sym (xored_map s (length s) (omega arith))

-- of the first B bytes, with a pad of B bytes
xored_take : (B : ℕ) (s t : List ℕ) → take B (xored s t) ≡ xored (take B s) (take B t)
xored_take zero s t = refl
xored_take (suc B) [] t = refl
xored_take (suc B) (x ∷ s) [] = refl
xored_take (suc B) (x ∷ s) (y ∷ t) = ap (λ (l : List ℕ). bit_xor x y ∷ l) (xored_take B s t)

pub block_padded : (B pad : ℕ) (k : List ℕ) {r : List ℕ} → B ≤ 128 → r ≡ xored k (replicate 128 pad) → take B r ≡ xored (take B k) (replicate B pad)
block_padded B pad k h e =
    ap (take B) e ∙ xored_take B k (replicate 128 pad) ∙ ap (λ (p : List ℕ). xored (take B k) p) (take_replicate B 128 pad h)
