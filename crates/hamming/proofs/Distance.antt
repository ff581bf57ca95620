-- The distance of bytes in two parts, and of words by the ones in their XOR.
use mathlib.Core.Path.{◌≡◌, ap, ap₂, sym, ◌∙◌}
use mathlib.Core.List.{List, [], ◌∷◌, ◌++◌}
use Prim.Native.Nat.{ℕ, zero, suc, ◌+◌, ◌*◌, ◌/◌, ◌%◌, ◌^◌, ◌<◌, ◌≤◌}
use native.Mathlib.Nat.{add_assoc, add_comm, pow-suc}
use native.Mathlib.Omega.{arith}
use lib.Bits.{bit_xor, xor_block, xor_lt}
use lib.Count.{ones, ones_cat}
use lib.ListN.{length, take, drop, length-drop}
use lib.Seq.{take-add, drop-drop, length-take-le}
use Rattle.memory.specs.Bytes.{bytes}
use Rattle.hamming.specs.Distance.{differing_bits, distance}
use Rattle.memory.specs.Lists.{bytes_at}
use Rattle.hamming.proofs.Bits.{ones_of_xor}

-- ---- two parts

pub distance_append : (a b s t : List ℕ) → length a ≡ length b → distance (a ++ s) (b ++ t) ≡ distance a b + distance s t
unfolding distance
distance_append [] [] s t e = omega arith
distance_append [] (y ∷ b) s t e = absurd (omega arith)
distance_append (x ∷ a) [] s t e = absurd (omega arith)
distance_append (x ∷ a) (y ∷ b) s t e =
    ap (λ (n : ℕ). differing_bits 8 x y + n) (distance_append a b s t (omega arith)) ∙ sym (add_assoc (differing_bits 8 x y) (distance a b) (distance s t))

part : (s : List ℕ) (m n i : ℕ) → bytes_at (m + n) s i ≡ bytes_at m s i ++ bytes_at n s (i + m)
part s m n i = take-add m n (drop i s) ∙ ap (λ (l : List ℕ). bytes_at m s i ++ take n l) (drop-drop m i s)

length_part : (s : List ℕ) (m i : ℕ) → i + m ≤ length s → length (bytes_at m s i) ≡ m
length_part s m i h = length-take-le m (drop i s) (omega (arith, length-drop i s))

-- ---- words

-- the ones in the XOR of two words of k bytes each
pub ones_of_words : (k x y : ℕ) → x < 256 ^ k → y < 256 ^ k → ones (bit_xor x y) ≡ distance (bytes k x) (bytes k y)
unfolding distance differing_bits
ones_of_words zero x y h g = ones_of_xor 0 x y h g
ones_of_words (suc k) x y h g =
    let p : x ≡ x / 256 * 2 ^ 8 + x % 256 = omega arith in
    let q : y ≡ y / 256 * 2 ^ 8 + y % 256 = omega arith in
    let a : x % 256 < 2 ^ 8 = omega arith in
    let b : y % 256 < 2 ^ 8 = omega arith in
    let c : x / 256 < 256 ^ k = omega (arith, pow-suc 256 k) in
    let d : y / 256 < 256 ^ k = omega (arith, pow-suc 256 k) in
    ap₂ {C = ℕ} (λ u v. ones (bit_xor u v)) p q ∙ ap ones (xor_block 8 (x / 256) (y / 256) (x % 256) (y % 256) a b)
    ∙ ones_cat 8 (bit_xor (x / 256) (y / 256)) (bit_xor (x % 256) (y % 256)) (xor_lt 8 (x % 256) (y % 256) a b)
    ∙ ap₂ {C = ℕ} (λ u v. u + v) (ones_of_words k (x / 256) (y / 256) c d) (ones_of_xor 8 (x % 256) (y % 256) a b)
    ∙ add_comm (distance (bytes k (x / 256)) (bytes k (y / 256))) (differing_bits 8 (x % 256) (y % 256))

-- bytes in two parts, each list with those that stand there
pub distance_parts : (s : List ℕ) (m n i j : ℕ) → i + m ≤ length s → j + m ≤ length s
    → distance (bytes_at (m + n) s i) (bytes_at (m + n) s j) ≡ distance (bytes_at m s i) (bytes_at m s j) + distance (bytes_at n s (i + m)) (bytes_at n s (j + m))
distance_parts s m n i j h g =
    let l : length (bytes_at m s i) ≡ length (bytes_at m s j) = length_part s m i h ∙ sym (length_part s m j g) in
    ap₂ {C = ℕ} distance (part s m n i) (part s m n j) ∙ distance_append (bytes_at m s i) (bytes_at m s j) (bytes_at n s (i + m)) (bytes_at n s (j + m)) l
