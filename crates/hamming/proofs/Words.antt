-- The bits in which the digests of a record differ, word by word.
use mathlib.Core.Path.{◌≡◌, ap, ap₂, ◌∙◌}
use mathlib.Core.List.{List}
use Prim.Native.Nat.{ℕ, ◌+◌, ◌*◌, ◌^◌, ◌≤◌, ◌<◌}
use native.Mathlib.Omega.{arith}
use lib.Bits.{bit_xor}
use lib.Count.{ones}
use lib.ListN.{length}
use Rattle.memory.specs.Bytes.{bytes}
use Rattle.memory.proofs.Bytes.{length_bytes}
use Rattle.hamming.specs.Distance.{distance}
use Rattle.memory.specs.Lists.{bytes_at}
use Rattle.hamming.proofs.Distance.{ones_of_words, distance_parts}
use Rattle.hamming.proofs.Metric.{distance_le}

-- of n bytes from place i on of a first digest and those of the second
abbrev pub distance_of : ℕ → List ℕ → ℕ → ℕ
distance_of n s i = distance (bytes_at n s i) (bytes_at n s (i + 32))

-- words x and y of k bytes each, as they were loaded
pub word_distance : (k : ℕ) (s : List ℕ) (i x y : ℕ) → x < 256 ^ k → y < 256 ^ k → bytes k x ≡ bytes_at k s i → bytes k y ≡ bytes_at k s (i + 32)
    → (ones (bit_xor x y) ≡ distance_of k s i) × (ones (bit_xor x y) ≤ 8 * k)
word_distance k s i x y h g e f =
    let a = ones_of_words k x y h g in
    (a ∙ ap₂ {C = ℕ} distance e f, omega (arith, a, distance_le (bytes k x) (bytes k y), length_bytes k x))

two_parts : (m n : ℕ) (s : List ℕ) (i : ℕ) → i + 32 + m ≤ length s → distance_of (m + n) s i ≡ distance_of m s i + distance_of n s (i + m)
two_parts m n s i h =
    let e : i + 32 + m ≡ i + m + 32 = omega arith in
    distance_parts s m n i (i + 32) (omega arith) h ∙ ap (λ (j : ℕ). distance_of m s i + distance (bytes_at n s (i + m)) (bytes_at n s j)) e

-- the four words of a digest
pub record_distance : (s : List ℕ) (i : ℕ) {a b c d : ℕ} → i + 64 ≤ length s → a ≡ distance_of 8 s i → b ≡ distance_of 8 s (i + 8) → c ≡ distance_of 8 s (i + 16)
    → d ≡ distance_of 8 s (i + 24) → a + (b + (c + d)) ≡ distance_of 32 s i
record_distance s i h e f g k =
    let m : i + 8 + 8 ≡ i + 16 = omega arith in
    let n : i + 16 + 8 ≡ i + 24 = omega arith in
    let p = two_parts 8 24 s i (omega arith) in
    let q : distance_of 24 s (i + 8) ≡ distance_of 8 s (i + 8) + distance_of 16 s (i + 16) =
    two_parts 8 16 s (i + 8) (omega arith) ∙ ap (λ (j : ℕ). distance_of 8 s (i + 8) + distance_of 16 s j) m in
    let r : distance_of 16 s (i + 16) ≡ distance_of 8 s (i + 16) + distance_of 8 s (i + 24) =
    two_parts 8 8 s (i + 16) (omega arith) ∙ ap (λ (j : ℕ). distance_of 8 s (i + 16) + distance_of 8 s j) n in
    omega (arith, p, q, r, e, f, g, k)
