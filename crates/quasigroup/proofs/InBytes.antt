-- Vectors in bytes: eight words and their bytes are the same vector, written in two ways.
use mathlib.Core.Path.{◌≡◌, refl, sym, ap, ◌∙◌, subst}
use mathlib.Core.List.{List, [], ◌++◌, append-nil, map}
use Prim.Native.Nat.{ℕ, ◌+◌, ◌*◌, ◌/◌, ◌%◌, ◌^◌, ◌≤◌, ◌<◌}
use native.Mathlib.Omega.{arith}
use lib.ListN.{length, get_or, take, drop}
use lib.Seq.{take_all}
use Rattle.memory.specs.Bytes.{words_at, bytes_of, Bytes}
use Rattle.memory.proofs.Bytes.{bytes_words, words_bytes, words_below, length-bytes_of}
use Rattle.quasigroup.specs.Vector.{Below, Vector}
use Rattle.quasigroup.proofs.Modulo.{reduce_id}
use Rattle.quasigroup.proofs.Vectors.{below_of}
use Rattle.quasigroup.proofs.Widths.{Bytewise}

module _ (w : ℕ) (h : Bytewise w) where
  -- eight words at an offset of bytes are a vector
  pub vector_at_lem : (s : List ℕ) → Bytes s → (i : ℕ) → Vector w (words_at (w / 8) 8 s i)
  vector_at_lem s b i =
      let v = words_at (w / 8) 8 s i in
      record { size = refl; small = below_of (2 ^ w) v (λ j _. subst (λ (m : ℕ). get_or v j 0 < m) h.power (words_below s b (w / 8) 8 i j)) }

  -- eight words take w bytes
  pub vector_length : (v : List ℕ) → length v ≡ 8 → length (bytes_of (w / 8) v) ≡ w
  vector_length v e = length-bytes_of (w / 8) v ∙ ap (λ (n : ℕ). n * (w / 8)) e ∙ h.eight

  -- the words in a vector's bytes, between others
  pub words_back : (v : List ℕ) → Vector w v → (p q : List ℕ) (i : ℕ) → length p ≡ i → words_at (w / 8) 8 (p ++ (bytes_of (w / 8) v ++ q)) i ≡ v
  words_back v b p q i e =
      let k = w / 8 in
      subst (λ (n : ℕ). words_at k n (p ++ (bytes_of k v ++ q)) i ≡ map (λ (y : ℕ). y % 256 ^ k) v) b.size (words_bytes k v p q i e)
      ∙ reduce_id (subst (λ (m : ℕ). Below m v) (sym h.power) b.small)

  -- the words in a vector's bytes alone
  pub words_alone : (v : List ℕ) → Vector w v → words_at (w / 8) 8 (bytes_of (w / 8) v) 0 ≡ v
  words_alone v b = ap (λ (l : List ℕ). words_at (w / 8) 8 l 0) (sym (append-nil (bytes_of (w / 8) v))) ∙ words_back v b [] [] 0 refl

  -- the bytes of the words at an offset
  pub bytes_back : (s : List ℕ) → Bytes s → (i : ℕ) → i + w ≤ length s → bytes_of (w / 8) (words_at (w / 8) 8 s i) ≡ take w (drop i s)
  bytes_back s b i r =
      let e : 8 * (w / 8) ≡ w = h.eight in
      bytes_words s b (w / 8) 8 i (omega arith) ∙ ap (λ (n : ℕ). take n (drop i s)) e

  pub bytes_alone : (s : List ℕ) → Bytes s → length s ≡ w → bytes_of (w / 8) (words_at (w / 8) 8 s 0) ≡ s
  bytes_alone s b e = bytes_back s b 0 (omega arith) ∙ take_all w s (omega arith)
