-- Two stretches of bytes that are the same, as bytes and as words of k bytes, for every k.
use mathlib.Core.Path.{◌≡◌, ap, ap₂, sym, ◌∙◌}
use mathlib.Core.List.{List, ◌++◌}
use Prim.Native.Nat.{ℕ, ◌+◌, ◌*◌, ◌≤◌}
use lib.ListN.{length, take, drop}
use lib.Seq.{take-take, take-add, drop-drop}
use Rattle.memory.specs.Bytes.{words_at, bytes_of, Bytes}
use Rattle.memory.proofs.Bytes.{words_take, words_drop, bytes_words}

-- the n bytes from i of a and from j of b
abbrev pub SameBytes : ℕ → List ℕ → ℕ → List ℕ → ℕ → Type 0
SameBytes n a i b j = take n (drop i a) ≡ take n (drop j b)

module _ (a : List ℕ) (i : ℕ) (b : List ℕ) (j : ℕ) where
  pub same_more : (m n : ℕ) → SameBytes m a i b j → SameBytes n a (i + m) b (j + m) → SameBytes (m + n) a i b j
  same_more m n e f =
      take-add m n (drop i a)
      ∙ ap₂ {C = List ℕ} (λ x y. x ++ y) e (ap (take n) (drop-drop m i a) ∙ f ∙ sym (ap (take n) (drop-drop m j b)))
      ∙ sym (take-add m n (drop j b))

  pub same_first : (m n : ℕ) → m ≤ n → SameBytes n a i b j → SameBytes m a i b j
  same_first m n h e = sym (take-take m n (drop i a) h) ∙ ap (take m) e ∙ take-take m n (drop j b) h

  -- n words that lie m bytes behind the start
  pub words_same : (l m k n : ℕ) → m + n * k ≤ l → SameBytes l a i b j → words_at k n a (i + m) ≡ words_at k n b (j + m)
  words_same l m k n h e =
      sym (words_take k n l (drop i a) m h ∙ words_drop k n i a m)
      ∙ ap (λ (s : List ℕ). words_at k n s m) e
      ∙ (words_take k n l (drop j b) m h ∙ words_drop k n j b m)

  pub bytes_same : Bytes a → Bytes b → (k n : ℕ) → i + n * k ≤ length a → j + n * k ≤ length b → words_at k n a i ≡ words_at k n b j → SameBytes (n * k) a i b j
  bytes_same ha hb k n p q e = sym (bytes_words a ha k n i p) ∙ ap (bytes_of k) e ∙ bytes_words b hb k n j q
