-- Bits and the numbers they write, and bit strings and their bytes.
use mathlib.Core.Path.{◌≡◌, refl, ap, ap₂, sym, ◌∙◌}
use mathlib.Core.Bool.{Bool, true, false, cond}
use mathlib.Core.List.{List, [], ◌∷◌, ◌++◌, append_assoc}
use Prim.Native.Nat.{ℕ, zero, suc, ◌+◌, ◌-◌, ◌*◌, ◌/◌, ◌%◌, ◌^◌, ◌≤◌, ◌<◌}
use native.Mathlib.Nat.{mod-lt, mod-eq_of_lt, pow-suc, zero-mul, add-mul}
use native.Mathlib.Omega.{arith}
use lib.Dec.{eqb}
use lib.ListN.{length, take, drop, replicate, length-append, length-take, length-drop, take-append-drop, replicate-append-replicate}
use lib.Pow.{pow_mono, pow-add, shr-shr, high, low, field, mod-pow-add, mod-mod-pow}
use lib.Seq.{take_at, drop_at, drop-drop, length-take-le}
use Rattle.memory.specs.Bytes.{Bytes}
use Rattle.digest.specs.Bits.{value_of, bits_of, bit_string, first_bytes, packed, remainder, highest}

-- a bit as a number
abbrev bit : Bool → ℕ
bit b = cond b 1 0

bit_of : (x : ℕ) → bit (eqb (x % 2) 1) ≡ x % 2
bit_of x = by (x % 2) (mod-lt x (omega arith))
  where
    by : (r : ℕ) → r < 2 → bit (eqb r 1) ≡ r
    by zero l = refl
    by (suc zero) l = refl
    by (suc (suc r)) l = absurd (omega arith)

bit_is : (b : Bool) → eqb (bit b) 1 ≡ b
bit_is true = refl
bit_is false = refl

bit_lt : (b : Bool) → bit b < 2
bit_lt true = omega arith
bit_lt false = omega arith

value_cons : (b : Bool) (s : List Bool) → value_of (b ∷ s) ≡ bit b * 2 ^ length s + value_of s
value_cons true s = omega arith
value_cons false s = omega (arith, zero-mul (2 ^ length s))

pub length_bits : (w x : ℕ) → length (bits_of w x) ≡ w
length_bits zero x = refl
length_bits (suc w) x = ap suc (length_bits w x)

-- ---- a number and its bits

pub value_lt : (s : List Bool) → value_of s < 2 ^ length s
value_lt [] = omega arith
value_lt (b ∷ s) = by b (value_lt s)
  where
    by : (b : Bool) → value_of s < 2 ^ length s → value_of (b ∷ s) < 2 ^ suc (length s)
    by true l = omega (arith, pow-suc 2 (length s))
    by false l = omega (arith, pow-suc 2 (length s))

-- the bits of x write x, reduced
pub value_bits : (w x : ℕ) → value_of (bits_of w x) ≡ x % 2 ^ w
value_bits zero x = omega arith
value_bits (suc w) x =
    let y = x / 2 ^ w in
    let c = value_cons (eqb (y % 2) 1) (bits_of w x) in
    let e : bit (eqb (y % 2) 1) * 2 ^ length (bits_of w x) ≡ y % 2 * 2 ^ w = ap₂ ◌*◌ (bit_of y) (ap (λ (n : ℕ). 2 ^ n) (length_bits w x)) in
    let n : 1 + w ≡ suc w = omega arith in
    c ∙ ap₂ ◌+◌ e (value_bits w x) ∙ sym (mod-pow-add x 1 w) ∙ ap (λ (j : ℕ). x % 2 ^ j) n

-- bits above the lowest w do not matter to them
bits_mod : (w j x : ℕ) → bits_of w (x % 2 ^ (j + w)) ≡ bits_of w x
bits_mod zero j x = refl
bits_mod (suc w) j x =
    let y = x / 2 ^ w in
    let e : j + suc w ≡ j + 1 + w = omega arith in
    let h : x % 2 ^ (j + 1 + w) / 2 ^ w % 2 ≡ y % 2 = ap (λ (n : ℕ). n % 2) (field x (j + 1) w) ∙ mod-mod-pow y j 1 in
    ap (λ (n : ℕ). bits_of (suc w) (x % 2 ^ n)) e ∙ ap₂ {B = List Bool} {C = List Bool} (λ n t. eqb n 1 ∷ t) h (bits_mod w (j + 1) x)

-- what bits write has these bits
pub bits_value : (s : List Bool) → bits_of (length s) (value_of s) ≡ s
bits_value [] = refl
bits_value (b ∷ s) =
    let n = length s in
    let x = bit b * 2 ^ n + value_of s in
    let h : x / 2 ^ n % 2 ≡ bit b = ap (λ (y : ℕ). y % 2) (high (bit b) n (value_lt s)) ∙ mod-eq_of_lt (bit_lt b) in
    let z : 0 + n ≡ n = omega arith in
    let t : bits_of n x ≡ s =
    sym (bits_mod n 0 x) ∙ ap (λ (j : ℕ). bits_of n (x % 2 ^ j)) z ∙ ap (bits_of n) (low (bit b) n (value_lt s)) ∙ bits_value s in
    ap (bits_of (suc n)) (value_cons b s) ∙ ap₂ {B = List Bool} {C = List Bool} (λ y l. eqb y 1 ∷ l) h t ∙ ap (λ (c : Bool). c ∷ s) (bit_is b)

-- the highest c bits of c + d
highest_bits : (c d x : ℕ) → take c (bits_of (c + d) x) ≡ bits_of c (x / 2 ^ d)
highest_bits zero d x = refl
highest_bits (suc c) d x =
    let e : suc c + d ≡ suc (c + d) = omega arith in
    let f : c + d ≡ d + c = omega arith in
    let h : x / 2 ^ (c + d) ≡ x / 2 ^ d / 2 ^ c = ap (λ (n : ℕ). x / 2 ^ n) f ∙ sym (shr-shr x d c) in
    ap (λ (n : ℕ). take (suc c) (bits_of n x)) e ∙ ap₂ {B = List Bool} {C = List Bool} (λ y l. eqb (y % 2) 1 ∷ l) h (highest_bits c d x)

pub highest_is : (count x : ℕ) → count ≤ 8 → highest count x ≡ bits_of count (x / 2 ^ (8 - count))
highest_is count x h =
    let e : 8 ≡ count + (8 - count) = omega arith in
    ap (λ (n : ℕ). take count (bits_of n x)) e ∙ highest_bits count (8 - count) x

pub length_highest : (count x : ℕ) → count ≤ 8 → length (highest count x) ≡ count
length_highest count x h = ap length (highest_is count x h) ∙ length_bits count (x / 2 ^ (8 - count))

-- ---- bits in two parts

pub value_append : (s t : List Bool) → value_of (s ++ t) ≡ value_of s * 2 ^ length t + value_of t
value_append [] t = omega (arith, zero-mul (2 ^ length t))
value_append (b ∷ s) t =
    let p : 2 ^ length (s ++ t) ≡ 2 ^ length s * 2 ^ length t = ap (λ (n : ℕ). 2 ^ n) (length-append s t) ∙ pow-add 2 (length s) (length t) in
    by b p (value_append s t)
  where
    by : (b : Bool) → 2 ^ length (s ++ t) ≡ 2 ^ length s * 2 ^ length t → value_of (s ++ t) ≡ value_of s * 2 ^ length t + value_of t
        → value_of (b ∷ (s ++ t)) ≡ value_of (b ∷ s) * 2 ^ length t + value_of t
    by true p i = omega (arith, add-mul (2 ^ length s) (value_of s) (2 ^ length t))
    by false p i = omega (arith, add-mul 0 (value_of s) (2 ^ length t))

-- ---- bit strings in bytes

pub length-bit_string : (m : List ℕ) → length (bit_string m) ≡ 8 * length m
length-bit_string [] = refl
length-bit_string (x ∷ m) = length-append (bits_of 8 x) (bit_string m) ∙ omega (arith, length_bits 8 x, length-bit_string m)

-- the first byte of a bit string
pub packed_byte : (u s : List Bool) → length u ≡ 8 → packed (u ++ s) ≡ value_of u ∷ packed s
packed_byte u s e =
    let n : length (u ++ s) / 8 ≡ suc (length s / 8) = omega (arith, length-append u s) in
    ap (λ (j : ℕ). first_bytes j (u ++ s)) n
    ∙ ap₂ {C = List ℕ} (λ (a b : List Bool). value_of a ∷ first_bytes (length s / 8) b) (take_at u s 8 e) (drop_at u s 8 e)

pub packed_bytes : (m : List ℕ) (s : List Bool) → Bytes m → packed (bit_string m ++ s) ≡ m ++ packed s
packed_bytes [] s b = refl
packed_bytes (x ∷ m) s b =
    let v : value_of (bits_of 8 x) ≡ x = value_bits 8 x ∙ mod-eq_of_lt (b 0) in
    ap packed (append_assoc (bits_of 8 x) (bit_string m) s) ∙ packed_byte (bits_of 8 x) (bit_string m ++ s) (length_bits 8 x)
    ∙ ap₂ {B = List ℕ} {C = List ℕ} (λ y l. y ∷ l) v (packed_bytes m s (λ i. b (suc i)))

pub packed_zeros : (g : ℕ) (s : List Bool) → packed (replicate (8 * g) false ++ s) ≡ replicate g 0 ++ packed s
packed_zeros zero s = refl
packed_zeros (suc g) s =
    let n : 8 * suc g ≡ 8 + 8 * g = omega arith in
    let r : replicate {A = Bool} (8 * suc g) false ≡ replicate 8 false ++ replicate (8 * g) false =
    ap (λ (j : ℕ). replicate j false) n ∙ sym (replicate-append-replicate 8 (8 * g) false) in
    ap (λ (l : List Bool). packed (l ++ s)) r
    ∙ packed_byte (replicate 8 false) (replicate (8 * g) false ++ s) refl ∙ ap (λ (l : List ℕ). 0 ∷ l) (packed_zeros g s)

-- a bit string is its first n bytes and the rest
bytes_rest : (n : ℕ) (s : List Bool) → 8 * n ≤ length s → bit_string (first_bytes n s) ++ drop (8 * n) s ≡ s
bytes_rest zero s h = refl
bytes_rest (suc n) s h =
    let l : length (take 8 s) ≡ 8 = length-take-le 8 s (omega arith) in
    let b : bits_of 8 (value_of (take 8 s)) ≡ take 8 s = ap (λ (j : ℕ). bits_of j (value_of (take 8 s))) (sym l) ∙ bits_value (take 8 s) in
    let e : 8 * suc n ≡ 8 + 8 * n = omega arith in
    let r : drop (8 * suc n) s ≡ drop (8 * n) (drop 8 s) = ap (λ (j : ℕ). drop j s) e ∙ sym (drop-drop (8 * n) 8 s) in
    append_assoc (bits_of 8 (value_of (take 8 s))) (bit_string (first_bytes n (drop 8 s))) (drop (8 * suc n) s)
    ∙ ap₂ {C = List Bool} (λ (a c : List Bool). a ++ (bit_string (first_bytes n (drop 8 s)) ++ c)) b r
    ∙ ap (λ (c : List Bool). take 8 s ++ c) (bytes_rest n (drop 8 s) (omega (arith, length-drop 8 s))) ∙ take-append-drop 8 s

pub whole_remainder : (s : List Bool) → bit_string (packed s) ++ remainder s ≡ s
whole_remainder s = bytes_rest (length s / 8) s (omega arith)

pub packed_are : (n : ℕ) (s : List Bool) → Bytes (first_bytes n s)
packed_are zero s i = omega arith
packed_are (suc n) s zero =
    let m : 2 ^ length (take 8 s) ≤ 2 ^ 8 = pow_mono {i = length (take 8 s)} {j = 8} (omega (arith, length-take 8 s)) in
    omega (arith, value_lt (take 8 s))
packed_are (suc n) s (suc i) = packed_are n (drop 8 s) i

pub length_packed : (s : List Bool) → length (packed s) ≡ length s / 8
length_packed s = first (length s / 8) s
  where
    first : (n : ℕ) (s : List Bool) → length (first_bytes n s) ≡ n
    first zero s = refl
    first (suc n) s = ap suc (first n (drop 8 s))
