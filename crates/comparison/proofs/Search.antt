-- The loop that finds the first word in which a record differs from a state.
use mathlib.Core.Path.{◌≡◌, sym, ap, ap₂, subst, ◌∙◌}
use mathlib.Core.Bool.{true, false}
use mathlib.Core.List.{List}
use Prim.Native.Nat.{ℕ, ◌+◌, ◌*◌, ◌/◌, ◌%◌, ◌≤◌, ◌<◌}
use native.Mathlib.Decide.{ℕ_discrete}
use native.Mathlib.Nat.{suc-mul, mul-le-mul_right}
use native.Mathlib.Omega.{arith}
use borrow.Author.Tests.{eqb-false}
use lib.ListN.{get_or}
use Rattle.memory.specs.Bytes.{word_at}
use Rattle.quasigroup.specs.Tables.{known_width}
use Rattle.quasigroup.proofs.Widths.{of_known, bytewise}
use Rattle.shuffle.specs.Shuffle.{record_length, record_words}
use Rattle.replay.specs.declared.Finding.{Finding}
use Rattle.replay.specs.Difference.{record_at, agreeing, same_words, finding_at, difference}
use Rattle.replay.proofs.Agreeing.{at_most, agrees}
use Rattle.replay.proofs.Words.{record_length_lem, record_get}

pub width_most : (w : ℕ) → known_width w ≡ true → w ≤ 64
width_most = of_known (λ w. w ≤ 64) (omega arith) (omega arith)

-- the bytes of word i lie in the record
pub word_within : (w : ℕ) → known_width w ≡ true → (i : ℕ) → i < record_words → i * (w / 8) + w / 8 ≤ record_length w
word_within w k i h =
    omega (arith, suc-mul i (w / 8), mul-le-mul_right {m = i + 1} {n = record_words} (w / 8) (omega arith), (bytewise w k).eight)

module _ (w : ℕ) (r : List ℕ) (from : ℕ) (v : List ℕ) where
  -- the words below i are the same
  abbrev pub Agreed : ℕ → Type 0
  Agreed i = (j : ℕ) → j < i → get_or (record_at w r from) j 0 ≡ get_or (record_at w v 0) j 0

  pub none_yet : Agreed 0
  none_yet j h = absurd (omega arith)

  -- code loaded the words a of the record and b of the state
  module _ (i : ℕ) (h : i < record_words) {a b : ℕ} (ea : a ≡ word_at (w / 8) r (from + i * (w / 8))) (eb : b ≡ word_at (w / 8) v (i * (w / 8))) where
    found : a ≡ get_or (record_at w r from) i 0
    found = ea ∙ sym (record_get w r from i h)

    expected : b ≡ get_or (record_at w v 0) i 0
    expected =
        let z : i * (w / 8) ≡ 0 + i * (w / 8) = omega arith in
        eb ∙ ap (word_at (w / 8) v) z ∙ sym (record_get w v 0 i h)

    same_to : Agreed i → a ≡ b → (j : ℕ) → j < i + 1 → Dec (j ≡ i) → get_or (record_at w r from) j 0 ≡ get_or (record_at w v 0) j 0
    same_to c e j k (yes p) = subst (λ (j : ℕ). get_or (record_at w r from) j 0 ≡ get_or (record_at w v 0) j 0) (sym p) (sym found ∙ e ∙ expected)
    same_to c e j k (no n) = let less : j < i = omega (arith, n) in c j less

    pub one_more : Agreed i → a ≡ b → Agreed (i + 1)
    one_more c e j k = same_to c e j k (ℕ_discrete j i)

    pub differs : Agreed i → (a ≡ b → ⊥) → i ≡ agreeing (record_at w r from) (record_at w v 0)
    differs c d =
        let lx = record_length_lem w r from in
        sym (agrees (record_at w r from) (record_at w v 0) i (lx ∙ sym (record_length_lem w v 0)) (omega (arith, lx)) c (λ _ e. d (found ∙ e ∙ sym expected)))

  pub all_agree : (i : ℕ) → record_words ≤ i → Agreed i → record_words ≡ agreeing (record_at w r from) (record_at w v 0)
  all_agree i h c =
      let lx = record_length_lem w r from in
      sym (agrees (record_at w r from) (record_at w v 0) record_words (lx ∙ sym (record_length_lem w v 0)) (omega (arith, lx))
      (λ j k. c j (omega arith)) (λ k. absurd (omega (arith, lx))))

  -- a record that does not hold has such a word
  pub there_is : same_words (record_at w r from) (record_at w v 0) ≡ false → agreeing (record_at w r from) (record_at w v 0) < record_words
  there_is h =
      let n = agreeing (record_at w r from) (record_at w v 0) in
      let ne : n ≡ record_words → ⊥ = eqb-false n record_words h in
      omega (arith, at_most (record_at w r from) (record_at w v 0), record_length_lem w r from, ne)

  -- code found its number n, and loaded the words a of the record and b of the state
  pub told : (offset n : ℕ) {a b : ℕ} → n ≡ agreeing (record_at w r from) (record_at w v 0) → n < record_words → a ≡ word_at (w / 8) r (from + n * (w / 8))
      → b ≡ word_at (w / 8) v (n * (w / 8))
      → ◌≡◌ {A = Finding} (record { offset = offset; place = n / 8; word = n % 8; found = a; expected = b })
      (difference offset (record_at w r from) (record_at w v 0))
  told offset n ei h ea eb =
      let z : n * (w / 8) ≡ 0 + n * (w / 8) = omega arith in
      let x = record_at w r from in
      let y = record_at w v 0 in
      ap₂ {C = Finding} (λ a b. record { offset = offset; place = n / 8; word = n % 8; found = a; expected = b })
      (ea ∙ sym (record_get w r from n h)) (eb ∙ ap (word_at (w / 8) v) z ∙ sym (record_get w v 0 n h))
      ∙ ap (finding_at offset x y) ei
