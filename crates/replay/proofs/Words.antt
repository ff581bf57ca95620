-- The words of eight vectors in order: their number, each by itself, and as bytes.
use mathlib.Core.Path.{◌≡◌, refl, sym, ap, subst, ◌∙◌}
use mathlib.Core.List.{List, ◌++◌}
use Prim.Native.Nat.{ℕ, zero, suc, ◌+◌, ◌*◌, ◌/◌, ◌^◌, ◌≤◌, ◌<◌}
use native.Mathlib.Omega.{arith}
use lib.ListN.{length, get_or}
use Rattle.memory.specs.Bytes.{word_at, words_at, Bytes}
use Rattle.memory.proofs.Bytes.{words_below, words_length, words_get, words_append}
use Rattle.memory.proofs.Same.{SameBytes, words_same, bytes_same}
use Rattle.quasigroup.proofs.Widths.{Bytewise}
use Rattle.sheet.specs.Read.{place_count}
use Rattle.sheet.specs.Run.{vectors_from}
use Rattle.shuffle.specs.Shuffle.{record_length, record_words}
use Rattle.replay.specs.Difference.{words_in_order, record_at}

pub record_length_lem : (w : ℕ) (b : List ℕ) (i : ℕ) → length (record_at w b i) ≡ record_words
unfolding record_at
record_length_lem w b i = words_length (w / 8) record_words b i

pub record_get : (w : ℕ) (b : List ℕ) (i j : ℕ) → j < record_words → get_or (record_at w b i) j 0 ≡ word_at (w / 8) b (i + j * (w / 8))
unfolding record_at
record_get w b i j h = words_get (w / 8) record_words b i j h

module _ (w : ℕ) (hw : Bytewise w) where
  -- the words of a record have its bytes
  record_bytes_lem : record_words * (w / 8) ≡ record_length w
  record_bytes_lem = omega (arith, hw.eight)

  in_order : (n : ℕ) (b : List ℕ) (i : ℕ) → words_in_order (vectors_from w n b i) ≡ words_at (w / 8) (n * 8) b i
  unfolding vectors_from
  in_order zero b i = refl
  in_order (suc n) b i =
      let e : 8 + n * 8 ≡ suc n * 8 = omega arith in
      let o : i + w ≡ i + 8 * (w / 8) = omega (arith, hw.eight) in
      ap (λ (l : List ℕ). words_at (w / 8) 8 b i ++ l) (in_order n b (i + w) ∙ ap (words_at (w / 8) (n * 8) b) o)
      ∙ sym (words_append (w / 8) 8 (n * 8) b i) ∙ ap (λ (m : ℕ). words_at (w / 8) m b i) e

  pub record_vectors : (b : List ℕ) (i : ℕ) → words_in_order (vectors_from w place_count b i) ≡ record_at w b i
  unfolding record_at
  record_vectors b i = in_order place_count b i

  pub record_below : (b : List ℕ) → Bytes b → (i j : ℕ) → get_or (record_at w b i) j 0 < 2 ^ w
  unfolding record_at
  record_below b hb i j = subst (λ (n : ℕ). get_or (words_at (w / 8) record_words b i) j 0 < n) hw.power (words_below b hb (w / 8) record_words i j)

  module _ (a : List ℕ) (i : ℕ) (b : List ℕ) (j : ℕ) where
    pub same_records : SameBytes (record_length w) a i b j → record_at w a i ≡ record_at w b j
    unfolding record_at
    same_records e =
        let p : i + 0 ≡ i = omega arith in
        let q : j + 0 ≡ j = omega arith in
        let h : 0 + record_words * (w / 8) ≤ record_length w = omega (arith, record_bytes_lem) in
        ap (words_at (w / 8) record_words a) (sym p) ∙ words_same a i b j (record_length w) 0 (w / 8) record_words h e ∙ ap (words_at (w / 8) record_words b) q

    pub same_bytes : Bytes a → Bytes b → i + record_length w ≤ length a → j + record_length w ≤ length b → record_at w a i ≡ record_at w b j
        → SameBytes (record_length w) a i b j
    unfolding record_at
    same_bytes ha hb p q e =
        subst (λ (n : ℕ). SameBytes n a i b j) record_bytes_lem
        (bytes_same a i b j ha hb (w / 8) record_words (omega (arith, record_bytes_lem)) (omega (arith, record_bytes_lem)) e)
