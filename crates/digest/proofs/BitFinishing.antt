-- Finishing with bits of a last byte: its refusals, the bits that matter, the count 0, and the largest total.
use Rattle.std.specs.Prelude.{Ok}
use mathlib.Core.Path.{◌≡◌, refl, ap, ap₂, sym, ◌∙◌}
use mathlib.Core.Bool.{Bool, true, false}
use mathlib.Core.List.{List, ◌∷◌, ◌++◌}
use Prim.Native.Nat.{ℕ, ◌+◌, ◌-◌, ◌*◌, ◌/◌, ◌^◌, ◌≤◌}
use native.Mathlib.Decide.{dec_le}
use native.Mathlib.Omega.{arith}
use borrow.Author.Tests.{le-leb, lt-leb}
use lib.ListN.{length, drop, replicate, length-append}
use Rattle.answer.specs.Refuse.{outcome}
use Rattle.answer.proofs.Refuse.{refused_outcome}
use Rattle.digest.specs.Bits.{value_of, bits_of, bit_string, highest}
use Rattle.digest.specs.Padding.{marked}
use Rattle.digest.specs.Refusals.{limit}
use Rattle.digest.specs.Kind.{Kind, known_size, narrow_kind, wide_kind}
use Rattle.digest.specs.State.{Hash, pending, closed, cut, finished_bits, finish_answer, finish_out, finish_bits_answer, finish_bits_out}
use Rattle.digest.specs.BitMessage.{message, bit_digest_answer}
use Rattle.digest.specs.BitFinishing.{BitRefuses, BitFinishing}
use Rattle.digest.proofs.Bits.{highest_is, length_highest, length-bit_string}
use Rattle.digest.proofs.Answers.{Sized, finishing_done, narrow_sized, wide_sized}

-- bytes that begin with the same count bits have the same highest ones
same_highest : (last other count : ℕ) → last / 2 ^ (8 - count) ≡ other / 2 ^ (8 - count) → highest count last ≡ highest count other
same_highest last other count e = decided (dec_le count 8)
  where
    decided : Dec (count ≤ 8) → highest count last ≡ highest count other
    decided (yes h) = highest_is count last h ∙ ap (λ (x : ℕ). bits_of count x) e ∙ sym (highest_is count other h)
    decided (no h) =
        let z : 8 - count ≡ 0 = omega arith in
        let f : last ≡ other = omega (arith, ap (λ (j : ℕ). last / 2 ^ j) z, ap (λ (j : ℕ). other / 2 ^ j) z) in
        ap (highest count) f

-- and so the same byte with the one bit
pub same_marked : (last other count : ℕ) → last / 2 ^ (8 - count) ≡ other / 2 ^ (8 - count) → marked last count ≡ marked other count
unfolding marked
same_marked last other count e = ap (λ (s : List Bool). value_of (s ++ true ∷ replicate (7 - count) false)) (same_highest last other count e)

-- behind whole bytes that is document 01's
pub marked_none : (last : ℕ) → marked last 0 ≡ 0x80
unfolding marked
marked_none last = refl

module _ (k : Kind) where
  refuses : (h : Hash) (last count : ℕ) (out : List ℕ) → BitRefuses k h last count out
  refuses h last count out =
      record {
        state = λ f. rw f;
        bits = λ f c. rw (f, lt-leb _ _ c);
        short = λ f c l. rw (f, le-leb _ _ c, lt-leb _ _ l);
        others = λ f c l. rw (f, le-leb _ _ c, le-leb _ _ l);
        unchanged = λ r. sym (refused_outcome (finish_bits_answer k h count out) (finished_bits k h last count ++ drop (h.size / 8) out) out r);
      }

  other_bits_lem : (h : Hash) (last other count : ℕ) (out : List ℕ) → last / 2 ^ (8 - count) ≡ other / 2 ^ (8 - count)
      → finish_bits_out k h last count out ≡ finish_bits_out k h other count out
  other_bits_lem h last other count out e =
      ap (λ (m : ℕ). outcome (finish_bits_answer k h count out)
      (cut k h.size (closed k h.pipe (pending k h) h.total m (8 * h.total + count)) ++ drop (h.size / 8) out) out)
      (same_marked last other count e)

  pub no_bits : (h : Hash) (last : ℕ) (out : List ℕ)
      → (finish_bits_answer k h 0 out ≡ finish_answer k h out) × (finish_bits_out k h last 0 out ≡ finish_out k h out)
  no_bits h last out =
      let z : 8 * h.total + 0 ≡ 8 * h.total = omega arith in (
        refl,
        ap₂ {C = List ℕ} (λ m b. outcome (finish_answer k h out)
            (cut k h.size (closed k h.pipe (pending k h) h.total m b) ++ drop (h.size / 8) out) out)
            (marked_none last) z,
      )

  largest : (n : ℕ) (m : List ℕ) (last : ℕ) (out : List ℕ) → known_size k n ≡ true → length m ≡ limit → n / 8 ≤ length out
      → (bit_digest_answer k n m 7 out ≡ Ok (n / 8)) × (length (message m last 7) ≡ 2 ^ 64 - 1)
  largest n m last out kn e l = (
    rw (kn, le-leb (length m) limit (omega arith), le-leb _ _ l),
    length-append (bit_string m) (highest 7 last) ∙ omega (arith, length-bit_string m, length_highest 7 last (omega arith)),
  )

  bit_finishing : Sized k → BitFinishing k
  bit_finishing is =
      record {
        refuses = refuses;
        other_bits = other_bits_lem;
        no_bits = no_bits;
        most = λ h count out d. omega (arith, (finishing_done is h.size h.total count (length out) d).1.bits);
        largest = largest;
      }

pub narrow_bit_finishing : BitFinishing narrow_kind
narrow_bit_finishing = bit_finishing narrow_kind narrow_sized

pub wide_bit_finishing : BitFinishing wide_kind
wide_bit_finishing = bit_finishing wide_kind wide_sized
