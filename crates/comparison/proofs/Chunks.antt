-- The loop that compares a record with a state, 64 bytes at a time.
use mathlib.Core.Path.{◌≡◌, refl, sym, ap, subst, ◌∙◌}
use mathlib.Core.List.{List}
use Prim.Native.Nat.{ℕ, ◌+◌, ◌-◌, ◌*◌, ◌/◌, ◌≤◌, ◌<◌}
use native.Mathlib.Omega.{arith}
use borrow.Author.Tests.{eq-eqb, eqb-true, eqb-false}
use lib.Bits.{bit_or}
use lib.Dec.{eqb}
use lib.ListN.{length, take, drop}
use Rattle.memory.specs.Bytes.{words_at, Bytes}
use Rattle.memory.proofs.Bytes.{words_length}
use Rattle.memory.proofs.Parts.{words_part}
use Rattle.memory.proofs.Same.{SameBytes, same_more, same_first, words_same, bytes_same}
use Rattle.quasigroup.proofs.Widths.{Bytewise}
use Rattle.shuffle.specs.Shuffle.{record_length, record_words}
use Rattle.replay.specs.Difference.{record_at, agreeing, same_words}
use Rattle.replay.proofs.Agreeing.{agree_all, agree_self, tells}
use Rattle.memory.proofs.Differing.{none_left, none_right, none_both}
use Rattle.replay.proofs.Words.{record_length_lem, same_records, same_bytes}

-- `bits` has none set exactly if the first bytes of the record at `from` are those of the state v, as far as `at`
pub record Compared (w : ℕ) (r : List ℕ) (from : ℕ) (v : List ℕ) (bits at : ℕ) : Type 0 where
  pub same : bits ≡ 0 → SameBytes at r from v 0
  pub none : SameBytes at r from v 0 → bits ≡ 0

-- chunk k of a record lies in it: there are as many as a word has bytes
room : (w : ℕ) → Bytewise w → (k : ℕ) → k < w / 8 → 64 * k + 64 ≤ record_length w
room w hw k h = omega (arith, hw.eight)

module _ (w : ℕ) (hw : Bytewise w) (r : List ℕ) (hr : Bytes r) (from : ℕ) (v : List ℕ) (hv : Bytes v) (lr : from + record_length w ≤ length r)
    (lv : length v ≡ record_length w) where
  pub begin : Compared w r from v 0 (64 * 0)
  begin = record { same = λ _. refl; none = λ _. refl }

  -- code loaded the words x of the record and y of the state at `at`, and found d of their differing bits
  module _ (bits k at : ℕ) (here : at ≡ 64 * k) (c : Compared w r from v bits at) (h : k < w / 8) {x y : List ℕ}
      (ex : x ≡ words_at 8 8 (take (length r - (from + at)) (drop (from + at) r)) 0) (ey : y ≡ words_at 8 8 (take (length v - at) (drop at v)) 0)
      (d : ℕ) (ed : eqb d 0 ≡ eqb (agreeing x y) 8) where
    found : x ≡ words_at 8 8 r (from + at)
    found = ex ∙ words_part 8 8 r (from + at)

    expected : y ≡ words_at 8 8 v (0 + at)
    expected = let z : at ≡ 0 + at = omega arith in ey ∙ words_part 8 8 v at ∙ ap (words_at 8 8 v) z

    x_length : length x ≡ 8
    x_length = ap length found ∙ words_length 8 8 r (from + at)

    y_length : length y ≡ 8
    y_length = ap length expected ∙ words_length 8 8 v (0 + at)

    same_words_lem : d ≡ 0 → x ≡ y
    same_words_lem e = agree_all x y (x_length ∙ sym y_length) (eqb-true (agreeing x y) 8 (sym ed ∙ eq-eqb d 0 e) ∙ sym x_length)

    no_bits : x ≡ y → d ≡ 0
    no_bits e = eqb-true d 0 (ed ∙ eq-eqb (agreeing x y) 8 (ap (agreeing x) (sym e) ∙ agree_self x ∙ x_length))

    same_more_bytes : d ≡ 0 → SameBytes (8 * 8) r (from + at) v (0 + at)
    same_more_bytes e =
        bytes_same r (from + at) v (0 + at) hr hv 8 8 (omega (arith, room w hw k h)) (omega (arith, room w hw k h)) (sym found ∙ same_words_lem e ∙ expected)

    pub next : Compared w r from v (bit_or bits d) (64 * (k + 1))
    next =
        let z : at + 64 ≡ 64 * (k + 1) = omega arith in
        subst (Compared w r from v (bit_or bits d)) z record {
          same = λ e. same_more r from v 0 at 64 (c.same (none_left bits d e)) (same_more_bytes (none_right bits d e));
          none = λ e.
              none_both bits d (c.none (same_first r from v 0 at (at + 64) (omega arith) e))
              (no_bits (found ∙ words_same r from v 0 (at + 64) at 8 8 (omega arith) e ∙ sym expected));
        }

  pub holds_all : (bits k : ℕ) → Compared w r from v bits (64 * k) → k ≤ w / 8 → w / 8 ≤ k → eqb bits 0 ≡ same_words (record_at w r from) (record_at w v 0)
  holds_all bits k c g h =
      let e : 64 * k ≡ record_length w = omega (arith, hw.eight) in
      tells (eqb bits 0) (record_at w r from) (record_at w v 0) record_words (record_length_lem w r from) (record_length_lem w v 0)
      (λ t. same_records w hw r from v 0 (rw e at (c.same (eqb-true bits 0 t))))
      λ t x.
      eqb-false bits 0 t
      (c.none (subst (λ (n : ℕ). SameBytes n r from v 0) (sym e) (same_bytes w hw r from v 0 hr hv lr (omega (arith, lv)) x)))
