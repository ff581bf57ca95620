-- Words from bytes and back, for words of k bytes, for every k.
use mathlib.Core.Path.{◌≡◌, refl, ap, ap₂, sym, ◌∙◌}
use mathlib.Core.List.{List, [], ◌∷◌, ◌++◌, map, append_assoc}
use Prim.Native.Nat.{ℕ, zero, suc, ◌+◌, ◌*◌, ◌/◌, ◌%◌, ◌^◌, ◌≤◌, ◌<◌}
use native.Mathlib.Nat.{mod-one, mod-lt, pow-suc, one-le-pow, suc-mul, zero-mul, add-zero, add_assoc}
use native.Mathlib.Numerals.{add-one}
use native.Mathlib.Omega.{arith}
use lib.Arith.{mod-mul}
use lib.ListN.{length, get_or, set, take, drop, length-append}
use lib.Seq.{sets, drop-cons, take-add, drop-drop, get_or_at, get_or-take, get_or-drop}
use Rattle.memory.proofs.Lists.{from_at, spread, front}
use Rattle.memory.specs.Bytes.{word_at, words_at, bytes, bytes_of, Bytes}

-- an element that was read as a byte is one
pub byte_read : {x y : ℕ} → (x ≡ y) × (x < 256) → y < 256
byte_read p = rw p.0 at p.1

-- k elements from place i on are bytes
abbrev pub BytesAt : ℕ → List ℕ → ℕ → Type 0
BytesAt zero s i = Unit {0}
BytesAt (suc k) s i = (get_or s i 0 < 256) × BytesAt k s (i + 1)

-- the bytes of the word at i are the bytes there
word_loaded : (s : List ℕ) (k i : ℕ) → BytesAt k s i → i + k ≤ length s → bytes k (word_at k s i) ≡ take k (drop i s)
word_loaded s zero i small h = refl
word_loaded s (suc k) i small h =
    let b = get_or s i 0 in
    let lt : b < 256 = small.0 in
    let w = word_at k s (i + 1) in
    let m : (b + 256 * w) % 256 ≡ b = omega arith in
    let d : (b + 256 * w) / 256 ≡ w = omega arith in
    let r : i + 1 + k ≤ length s = omega arith in
    let n : i < length s = omega arith in
    ap (λ (x : ℕ). x ∷ bytes k ((b + 256 * w) / 256)) m ∙ ap (λ (x : ℕ). b ∷ bytes k x) d ∙ ap (λ (l : List ℕ). b ∷ l) (word_loaded s k (i + 1) small.1 r)
    ∙ ap (λ (j : ℕ). b ∷ take k (drop j s)) (add-one i) ∙ ap (take (suc k)) (sym (drop-cons s i 0 n))

pub loaded : (s : List ℕ) (k i : ℕ) {r : ℕ} → r ≡ word_at k s i → BytesAt k s i → i + k ≤ length s
    → (r ≡ word_at k s i) × (bytes k r ≡ take k (drop i s))
loaded s k i e small h = (e, ap (bytes k) e ∙ word_loaded s k i small h)

module _ (s : List ℕ) (small : Bytes s) where
  -- a word of k bytes is below 256^k
  pub word_below : (k i : ℕ) → word_at k s i < 256 ^ k
  word_below zero i = omega arith
  word_below (suc k) i = omega (arith, small i, word_below k (i + 1))

  pub words_below : (k n i j : ℕ) → get_or (words_at k n s i) j 0 < 256 ^ k
  words_below k zero i j = one-le-pow k 256 (omega arith)
  words_below k (suc n) i zero = word_below k i
  words_below k (suc n) i (suc j) = words_below k n (i + k) j

  bytes_at : (k i : ℕ) → BytesAt k s i
  bytes_at zero i = tt
  bytes_at (suc k) i = (small i, bytes_at k (i + 1))

  pub bytes_word : (k i : ℕ) → i + k ≤ length s → bytes k (word_at k s i) ≡ take k (drop i s)
  bytes_word k i h = word_loaded s k i (bytes_at k i) h

  -- the bytes of the words from i are the bytes there
  pub bytes_words : (k n i : ℕ) → i + n * k ≤ length s → bytes_of k (words_at k n s i) ≡ take (n * k) (drop i s)
  bytes_words k zero i h = rw (zero-mul k)
  bytes_words k (suc n) i h =
      let e : suc n * k ≡ k + n * k = suc-mul n k ∙ omega arith in
      let r : i + k + n * k ≤ length s = omega arith in
      ap (λ (l : List ℕ). l ++ bytes_of k (words_at k n s (i + k))) (bytes_word k i (omega arith))
      ∙ ap (λ (l : List ℕ). take k (drop i s) ++ l) (bytes_words k n (i + k) r ∙ ap (take (n * k)) (sym (drop-drop k i s)))
      ∙ sym (take-add k (n * k) (drop i s)) ∙ ap (λ (j : ℕ). take j (drop i s)) (sym e)

-- ---- the words from i on: their number, each by itself, and in two parts

pub words_length : (k n : ℕ) (s : List ℕ) (i : ℕ) → length (words_at k n s i) ≡ n
words_length k zero s i = refl
words_length k (suc n) s i = ap suc (words_length k n s (i + k))

pub words_get : (k n : ℕ) (s : List ℕ) (i j : ℕ) → j < n → get_or (words_at k n s i) j 0 ≡ word_at k s (i + j * k)
words_get k zero s i j h = absurd (omega arith)
words_get k (suc n) s i zero h = let e : i ≡ i + 0 * k = omega (arith, zero-mul k) in ap (word_at k s) e
words_get k (suc n) s i (suc j) h =
    let e : i + k + j * k ≡ i + suc j * k = omega (arith, suc-mul j k) in
    words_get k n s (i + k) j (omega arith) ∙ ap (word_at k s) e

pub words_append : (k m n : ℕ) (s : List ℕ) (i : ℕ) → words_at k (m + n) s i ≡ words_at k m s i ++ words_at k n s (i + m * k)
words_append k zero n s i =
    let a : 0 + n ≡ n = omega arith in
    let b : i ≡ i + 0 * k = omega (arith, zero-mul k) in
    ap (λ (m : ℕ). words_at k m s i) a ∙ ap (words_at k n s) b
words_append k (suc m) n s i =
    let a : suc m + n ≡ suc (m + n) = omega arith in
    let b : i + k + m * k ≡ i + suc m * k = omega (arith, suc-mul m k) in
    ap (λ (m : ℕ). words_at k m s i) a
    ∙ ap (λ (l : List ℕ). words_at k 1 s i ++ l) (words_append k m n s (i + k) ∙ ap (λ (j : ℕ). words_at k m s (i + k) ++ words_at k n s j) b)

-- the word in the bytes of x is x, reduced
pub word_bytes : (k x : ℕ) (p q : List ℕ) (i : ℕ) → length p ≡ i → word_at k (p ++ (bytes k x ++ q)) i ≡ x % 256 ^ k
word_bytes zero x p q i e = sym (mod-one x)
word_bytes (suc k) x p q i e =
    let t = bytes k (x / 256) ++ q in
    let g : get_or (p ++ (x % 256 ∷ t)) i 0 ≡ x % 256 = get_or_at p (x % 256) t 0 i e in
    let l : length (p ++ (x % 256 ∷ [])) ≡ i + 1 = length-append p (x % 256 ∷ []) ∙ ap (λ (n : ℕ). n + 1) e in
    let w : word_at k (p ++ (x % 256 ∷ t)) (i + 1) ≡ (x / 256) % 256 ^ k =
    ap (λ (a : List ℕ). word_at k a (i + 1)) (sym (append_assoc p (x % 256 ∷ []) t)) ∙ word_bytes k (x / 256) (p ++ (x % 256 ∷ [])) q (i + 1) l in
    ap (λ (n : ℕ). n + 256 * word_at k (p ++ (x % 256 ∷ t)) (i + 1)) g ∙ ap (λ (n : ℕ). x % 256 + 256 * n) w
    ∙ sym (ap (λ (n : ℕ). x % n) (pow-suc 256 k) ∙ mod-mul x (one-le-pow k 256 (omega arith)) (omega arith) ∙ omega arith)

pub length_bytes : (k x : ℕ) → length (bytes k x) ≡ k
length_bytes zero x = refl
length_bytes (suc k) x = ap suc (length_bytes k (x / 256))

pub length-bytes_of : (k : ℕ) (v : List ℕ) → length (bytes_of k v) ≡ length v * k
length-bytes_of k [] = sym (zero-mul k)
length-bytes_of k (x ∷ v) = length-append (bytes k x) (bytes_of k v) ∙ ap₂ ◌+◌ (length_bytes k x) (length-bytes_of k v) ∙ omega (arith, suc-mul (length v) k)

pub bytes_of-append : (k : ℕ) (u v : List ℕ) → bytes_of k (u ++ v) ≡ bytes_of k u ++ bytes_of k v
bytes_of-append k [] v = refl
bytes_of-append k (x ∷ u) v = ap (λ (l : List ℕ). bytes k x ++ l) (bytes_of-append k u v) ∙ sym (append_assoc (bytes k x) (bytes_of k u) (bytes_of k v))

-- ---- what words are written as are bytes

pub no_bytes : Bytes []
no_bytes i = omega arith

pub cons_bytes : (x : ℕ) (l : List ℕ) → x < 256 → Bytes l → Bytes (x ∷ l)
cons_bytes x l h k zero = h
cons_bytes x l h k (suc i) = k i

pub append_bytes : (a b : List ℕ) → Bytes a → Bytes b → Bytes (a ++ b)
append_bytes [] b f g i = g i
append_bytes (x ∷ a) b f g zero = f 0
append_bytes (x ∷ a) b f g (suc i) = append_bytes a b (λ j. f (suc j)) g i

pub bytes_are : (k x : ℕ) → Bytes (bytes k x)
bytes_are zero x i = omega arith
bytes_are (suc k) x zero = mod-lt x (omega arith)
bytes_are (suc k) x (suc i) = bytes_are k (x / 256) i

pub bytes_of-are : (k : ℕ) (v : List ℕ) → Bytes (bytes_of k v)
bytes_of-are k [] i = omega arith
bytes_of-are k (x ∷ v) i = append_bytes (bytes k x) (bytes_of k v) (bytes_are k x) (bytes_of-are k v) i

-- ---- parts of bytes are bytes

pub take_bytes : (n : ℕ) (s : List ℕ) → Bytes s → Bytes (take n s)
take_bytes zero s b i = omega arith
take_bytes (suc n) [] b i = omega arith
take_bytes (suc n) (x ∷ s) b zero = b 0
take_bytes (suc n) (x ∷ s) b (suc i) = take_bytes n s (λ j. b (suc j)) i

pub drop_bytes : (n : ℕ) (s : List ℕ) → Bytes s → Bytes (drop n s)
drop_bytes n s b i = rw (get_or-drop n s i 0) (b (n + i))

-- ---- words in the part of s that starts at j

pub word_drop : (k j : ℕ) (s : List ℕ) (i : ℕ) → word_at k (drop j s) i ≡ word_at k s (j + i)
word_drop zero j s i = refl
word_drop (suc k) j s i =
    ap₂ {C = ℕ} (λ x y. x + 256 * y) (get_or-drop j s i 0) (word_drop k j s (i + 1) ∙ ap (word_at k s) (sym (add_assoc j i 1)))

pub words_drop : (k n j : ℕ) (s : List ℕ) (i : ℕ) → words_at k n (drop j s) i ≡ words_at k n s (j + i)
words_drop k zero j s i = refl
words_drop k (suc n) j s i =
    ap₂ {B = List ℕ} {C = List ℕ} (λ x y. x ∷ y) (word_drop k j s i) (words_drop k n j s (i + k) ∙ ap (words_at k n s) (sym (add_assoc j i k)))

-- ---- words in the first m elements of s

word_take : (k m : ℕ) (s : List ℕ) (i : ℕ) → i + k ≤ m → word_at k (take m s) i ≡ word_at k s i
word_take zero m s i h = refl
word_take (suc k) m s i h = ap₂ {C = ℕ} (λ x y. x + 256 * y) (get_or-take m s i 0 (omega arith)) (word_take k m s (i + 1) (omega arith))

pub words_take : (k n m : ℕ) (s : List ℕ) (i : ℕ) → i + n * k ≤ m → words_at k n (take m s) i ≡ words_at k n s i
words_take k zero m s i h = refl
words_take k (suc n) m s i h =
    let e = suc-mul n k in
    ap₂ {B = List ℕ} {C = List ℕ} (λ x y. x ∷ y) (word_take k m s i (omega arith)) (words_take k n m s (i + k) (omega arith))

-- ---- words from bytes that were written

-- the words in the bytes of v are those of v, reduced
pub words_bytes : (k : ℕ) (v p q : List ℕ) (i : ℕ) → length p ≡ i → words_at k (length v) (p ++ (bytes_of k v ++ q)) i ≡ map (λ (x : ℕ). x % 256 ^ k) v
words_bytes k [] p q i e = refl
words_bytes k (x ∷ xs) p q i e =
    let r = bytes_of k xs ++ q in
    let a : (bytes k x ++ bytes_of k xs) ++ q ≡ bytes k x ++ r = append_assoc (bytes k x) (bytes_of k xs) q in
    let l : length (p ++ bytes k x) ≡ i + k = length-append p (bytes k x) ∙ ap (λ (n : ℕ). n + length (bytes k x)) e ∙ ap (λ (n : ℕ). i + n) (length_bytes k x) in
    ap (λ (t : List ℕ). word_at k (p ++ t) i ∷ words_at k (length xs) (p ++ t) (i + k)) a
    ∙ ap (λ (n : ℕ). n ∷ words_at k (length xs) (p ++ (bytes k x ++ r)) (i + k)) (word_bytes k x p r i e)
    ∙ ap (λ (t : List ℕ). x % 256 ^ k ∷ t)
    (ap (λ (t : List ℕ). words_at k (length xs) t (i + k)) (sym (append_assoc p (bytes k x) r)) ∙ words_bytes k xs (p ++ bytes k x) q (i + k) l)

-- ---- words that are stored one after the other

-- the words of v stored in l, k bytes each, as its words from number i on
abbrev stores : ℕ → List ℕ → ℕ → List ℕ → List ℕ
stores k l i [] = l
stores k l i (x ∷ v) = stores k (sets l (i * k) (bytes k x)) (suc i) v

sets_append : (a b l : List ℕ) (i : ℕ) → sets (sets l i a) (i + length a) b ≡ sets l i (a ++ b)
sets_append [] b l i = ap (λ (n : ℕ). sets l n b) (add-zero i)
sets_append (x ∷ a) b l i = ap (λ (n : ℕ). sets (sets (set l i x) (suc i) a) n b) (omega arith) ∙ sets_append a b (set l i x) (suc i)

stores_sets : (k : ℕ) (v l : List ℕ) (i : ℕ) → stores k l i v ≡ sets l (i * k) (bytes_of k v)
stores_sets k [] l i = refl
stores_sets k (x ∷ v) l i =
    let n : suc i * k ≡ i * k + length (bytes k x) = omega (arith, suc-mul i k, length_bytes k x) in
    stores_sets k v (sets l (i * k) (bytes k x)) (suc i) ∙ ap (λ (j : ℕ). sets (sets l (i * k) (bytes k x)) j (bytes_of k v)) n
    ∙ sets_append (bytes k x) (bytes_of k v) l (i * k)

stores_front : (k : ℕ) (v l : List ℕ) → length v * k ≤ length l → stores k l 0 v ≡ bytes_of k v ++ drop (length v * k) l
stores_front k v l h =
    let n : length (bytes_of k v) ≡ length v * k = length-bytes_of k v in
    stores_sets k v l 0 ∙ ap (λ (j : ℕ). sets l j (bytes_of k v)) (zero-mul k) ∙ front l (bytes_of k v) (omega arith)
    ∙ ap (λ (j : ℕ). bytes_of k v ++ drop j l) n

-- what eight stores leave that put the words of v one after the other from the start: the bytes of v, and then the rest
pub eight_stores : (k : ℕ) (l v : List ℕ) → length v ≡ 8 → 8 * k ≤ length l → {a b c d e f g h : List ℕ}
    → a ≡ sets l (0 * k) (bytes k (get_or v 0 0)) → b ≡ sets a (1 * k) (bytes k (get_or v 1 0)) → c ≡ sets b (2 * k) (bytes k (get_or v 2 0))
    → d ≡ sets c (3 * k) (bytes k (get_or v 3 0)) → e ≡ sets d (4 * k) (bytes k (get_or v 4 0)) → f ≡ sets e (5 * k) (bytes k (get_or v 5 0))
    → g ≡ sets f (6 * k) (bytes k (get_or v 6 0)) → h ≡ sets g (7 * k) (bytes k (get_or v 7 0)) → h ≡ bytes_of k v ++ drop (8 * k) l
eight_stores k l v len fits {h = h} p q r s t u w x =
    let all : h ≡ stores k l 0 (from_at 8 v 0) = cc in
    let room : length v * k ≤ length l = rw len fits in
    all ∙ ap (stores k l 0) (spread 8 v len) ∙ stores_front k v l room ∙ ap (λ (n : ℕ). bytes_of k v ++ drop (n * k) l) len
