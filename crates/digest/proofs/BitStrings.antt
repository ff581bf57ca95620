-- Agreement over bit strings: the theorem of specs/BitStrings.antt, for every kind, and so for the narrow and the wide one.
use Rattle.std.specs.Prelude.{Ok}
use mathlib.Core.Path.{◌≡◌, ap, ap₂, sym, subst, ◌∙◌}
use mathlib.Core.Bool.{Bool, true, false, cond}
use mathlib.Core.List.{List, [], ◌∷◌, ◌++◌, append-nil}
use Prim.Native.Nat.{ℕ, ◌+◌, ◌-◌, ◌*◌, ◌/◌, ◌%◌, ◌^◌, ◌≤◌, ◌<◌}
use native.Mathlib.Nat.{zero-add}
use native.Mathlib.Decide.{dec_le}
use native.Mathlib.Omega.{arith}
use borrow.Author.Tests.{le-leb, lt-leb}
use lib.ListN.{length, take, drop, replicate, length-append, length-drop, length-replicate}
use lib.Seq.{take_at}
use Rattle.answer.specs.Answer.{Answer, refused_at}
use Rattle.answer.specs.declared.Refusal.{Refusal}
use Rattle.answer.specs.declared.Refusal.TheVariants.{BitCount}
use Rattle.answer.specs.Refuse.{outcome}
use Rattle.memory.specs.Bytes.{Bytes}
use Rattle.digest.specs.Bits.{value_of, bits_of, bit_string, packed, remainder, highest}
use Rattle.digest.specs.Padding.{ending, marked}
use Rattle.digest.specs.Blocks.{compressed}
use Rattle.digest.specs.Refusals.{limit}
use Rattle.digest.specs.Kind.{Kind, known_size, narrow_kind, wide_kind}
use Rattle.digest.specs.State.{Hash, formed, opened, open_state, advanced, feed_all, cut, finished_bits, finish_bits_answer, finish_bits_out}
use Rattle.digest.specs.OneCall.{digest_of}
use Rattle.digest.specs.BitDigest.{bit_digest_of}
use Rattle.digest.specs.BitMessage.{message, bit_digest_answer, bit_digest_out}
use Rattle.digest.specs.Cutting.{concatenated, Written, finishes_bits, in_pieces_bits, accepted}
use Rattle.digest.specs.BitStrings.{last_byte, PackedBytes, Parts, BitStrings, OneCallBits}
use Rattle.digest.proofs.Bits.{value_lt, bits_value, length_highest, whole_remainder, packed_bytes, packed_are, length_packed}
use Rattle.digest.proofs.BitPadding.{packed_padded}
use Rattle.digest.proofs.BitFinishing.{marked_none}
use Rattle.digest.proofs.Feeding.{formed_advanced, advanced_size, advanced_total}
use Rattle.digest.proofs.Opened.{formed_opened, closed_is}
use Rattle.digest.proofs.Cutting.{opened_joined, fed_state}

-- ---- a bit string in bytes, and in parts

pub packed_again : PackedBytes
packed_again m are = ap packed (sym (append-nil (bit_string m))) ∙ packed_bytes m [] are ∙ append-nil m

pub parts : (s : List Bool) → Parts s
parts s =
    let c = length s % 8 in
    let z = replicate {A = Bool} (8 - c) false in
    let n : length (remainder s) ≡ c = length-drop (8 * (length s / 8)) s ∙ omega arith in
    let eight : length (remainder s ++ z) ≡ 8 = length-append (remainder s) z ∙ omega (arith, length-replicate {A = Bool} (8 - c) false) in
    let v : bits_of 8 (last_byte s) ≡ remainder s ++ z = ap (λ (j : ℕ). bits_of j (last_byte s)) (sym eight) ∙ bits_value (remainder s ++ z) in
    record {
      whole = whole_remainder s;
      bytes = packed_are (length s / 8) s;
      count = n;
      byte = subst (λ (j : ℕ). last_byte s < 2 ^ j) eight (value_lt (remainder s ++ z));
      bits = ap (take c) v ∙ take_at (remainder s) z c n;
    }

module _ (k : Kind) (pos : 0 < k.block) (big : 8 < k.block) where
  -- ---- the digest of bits is that of the bytes behind which they stand

  bit_digest : (n : ℕ) (m : List ℕ) → Bytes m → (last count : ℕ) → count ≤ 7
      → cut k n (compressed k.block k.step (k.start n) (m ++ ending k.block (length m) (marked last count) (8 * length m + count)))
      ≡ bit_digest_of k n (message m last count)
  unfolding bit_digest_of marked
  bit_digest n m are last count few =
      let u = highest count last in
      let e : length u ≡ count = length_highest count last (omega arith) in
      let p = packed_padded k.block big m are u (omega arith) in
      let q = ap (λ (c : ℕ). m ++ ending k.block (length m) (value_of (u ++ true ∷ replicate (7 - c) false)) (8 * length m + c)) e in
      ap (λ (s : List ℕ). cut k n (compressed k.block k.step (k.start n) s)) (sym (p ∙ q))

  of_bytes_lem : (n : ℕ) (m : List ℕ) → Bytes m → digest_of k n m ≡ bit_digest_of k n (bit_string m)
  unfolding digest_of
  of_bytes_lem n m are =
      let z : 8 * length m ≡ 8 * length m + 0 = omega arith in
      ap₂ {C = List ℕ} (λ a b. cut k n (compressed k.block k.step (k.start n) (m ++ ending k.block (length m) a b))) (sym (marked_none 0)) z
      ∙ bit_digest n m are 0 0 (omega arith) ∙ ap (bit_digest_of k n) (append-nil (bit_string m))

  -- ---- opening, feeding and finishing

  module _ (last count : ℕ) (out : List ℕ) where
    abbrev called : ℕ → List ℕ → Written
    called n m = record { answer = bit_digest_answer k n m count out; out = bit_digest_out k n m last count out }

    refused_call : (n : ℕ) (m : List ℕ) {r : Refusal} → bit_digest_answer k n m count out ≡ refused_at r 0 → record { answer = refused_at r 0; out = out } ≡ called n m
    refused_call n m e = ap (λ (b : Answer). record { answer = b; out = outcome b (bit_digest_of k n (message m last count) ++ drop (n / 8) out) out }) (sym e)

    refused_finish : (h : Hash) {r : Refusal} → finish_bits_answer k h count out ≡ refused_at r 0
        → finishes_bits k last count out h ≡ record { answer = refused_at r 0; out = out }
    refused_finish h e = ap (λ (b : Answer). record { answer = b; out = outcome b (finished_bits k h last count ++ drop (h.size / 8) out) out }) e

    one_call : (n : ℕ) → known_size k n ≡ true → (m : List ℕ) → Bytes m → length m ≤ limit
        → finishes_bits k last count out (advanced k (opened k n) m) ≡ called n m
    one_call n kn m are l = decided (dec_le count 7)
      where
        h : Hash
        h = advanced k (opened k n) m

        f : formed k h ≡ true
        f = formed_advanced k pos (opened k n) m (formed_opened k pos n kn) (omega arith)

        z : h.size ≡ n
        z = advanced_size k pos (opened k n) m

        digests : count ≤ 7 → finished_bits k h last count ≡ bit_digest_of k n (message m last count)
        digests few =
            ap₂ {C = List ℕ} (λ a b. cut k a b) z
            (closed_is k pos n m (marked last count) (8 * h.total + count)
            ∙ ap (λ (t : ℕ). compressed k.block k.step (k.start n) (m ++ ending k.block (length m) (marked last count) (8 * t + count)))
            (advanced_total k pos (opened k n) m ∙ zero-add (length m)))
            ∙ bit_digest n m are last count few

        decided : Dec (count ≤ 7) → finishes_bits k last count out h ≡ called n m
        decided (yes few) =
            let a : finish_bits_answer k h count out ≡ bit_digest_answer k n m count out = rw (kn, le-leb _ _ l, f, z) in
            let d = digests few in
            λ i. record { answer = a i; out = outcome (a i) (d i ++ drop (z i / 8) out) out }
        decided (no many) =
            let b : 7 < count = omega arith in
            refused_finish h {r = BitCount} (rw (f, lt-leb _ _ b)) ∙ refused_call n m {r = BitCount} (rw (kn, le-leb _ _ l, lt-leb _ _ b))

  whole : (n : ℕ) (ss : List (List ℕ)) (last count : ℕ) (out : List ℕ) → Bytes (concatenated ss)
      → in_pieces_bits k n ss last count out ≡ called last count out n (concatenated ss)
  whole n ss last count out are =
      let m = concatenated ss in
      opened_joined k pos (finishes_bits k last count out) out (λ h f. refused_finish last count out h (rw f)) n ss (called last count out n m)
      (λ e. refused_call last count out n m (rw e)) (λ kn l. refused_call last count out n m (rw (kn, lt-leb _ _ l)))
      (λ kn l. one_call last count out n kn m are l)

  goes_on : (n : ℕ) (ss : List (List ℕ)) (last count : ℕ) (out : List ℕ) → known_size k n ≡ true → Bytes (accepted k (open_state k n) ss)
      → (finish_bits_answer k (feed_all k (open_state k n) ss) count out ≡ bit_digest_answer k n (accepted k (open_state k n) ss) count out)
      × (finish_bits_out k (feed_all k (open_state k n) ss) last count out ≡ bit_digest_out k n (accepted k (open_state k n) ss) last count out)
  goes_on n ss last count out kn are =
      let x = fed_state k pos n ss kn in
      let e = ap (finishes_bits k last count out) x.0 ∙ one_call last count out n kn (accepted k (open_state k n) ss) are x.1 in
      (ap (λ (w : Written). w.answer) e, ap (λ (w : Written). w.out) e)

  -- ---- every bit string

  every : (n : ℕ) (s : List Bool) (ss : List (List ℕ)) (last : ℕ) (out : List ℕ) → known_size k n ≡ true → length s ≤ 2 ^ 64 - 1
      → concatenated ss ≡ packed s → highest (length s % 8) last ≡ remainder s → n / 8 ≤ length out
      → in_pieces_bits k n ss last (length s % 8) out ≡ record { answer = Ok (n / 8); out = bit_digest_of k n s ++ drop (n / 8) out }
  every n s ss last out kn l es el room =
      let c = length s % 8 in
      let m = packed s in
      let lm : length m ≤ limit = omega (arith, length_packed s) in
      let few : c ≤ 7 = omega arith in
      let a : bit_digest_answer k n m c out ≡ Ok (n / 8) = rw (kn, le-leb _ _ lm, le-leb _ _ few, le-leb _ _ room) in
      let i : message m last c ≡ s = ap (λ (u : List Bool). bit_string m ++ u) el ∙ whole_remainder s in
      whole n ss last c out (subst Bytes (sym es) (packed_are (length s / 8) s)) ∙ ap (called last c out n) es
      ∙ ap₂ {C = Written} (λ b t. record { answer = b; out = outcome b (bit_digest_of k n t ++ drop (n / 8) out) out }) a i

  pub bit_strings : BitStrings k
  bit_strings = record { of_bytes = of_bytes_lem; whole = whole; goes_on = goes_on; every = every }

pub narrow_bit_strings : BitStrings narrow_kind
narrow_bit_strings = bit_strings narrow_kind (omega arith) (omega arith)

pub wide_bit_strings : BitStrings wide_kind
wide_bit_strings = bit_strings wide_kind (omega arith) (omega arith)

pub one_call_bits : OneCallBits
one_call_bits n m are = by (known_size wide_kind n)
  where
    by : (b : Bool) → digest_of (cond b wide_kind narrow_kind) n m ≡ bit_digest_of (cond b wide_kind narrow_kind) n (bit_string m)
    by true = wide_bit_strings.of_bytes n m are
    by false = narrow_bit_strings.of_bytes n m are
