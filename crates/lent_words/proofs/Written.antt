-- The library's bytes of a number are its lowest bytes, and a copy of them to a place is as many stores.
use mathlib.Core.Path.{◌≡◌, refl, ap, ap₂, sym, subst, ◌∙◌}
use mathlib.Core.List.{List, ◌∷◌, ◌++◌}
use Prim.Native.Nat.{ℕ, zero, suc, ◌+◌, ◌*◌, ◌/◌, ◌%◌, ◌^◌, ◌≤◌, ◌<◌}
use native.Mathlib.Nat.{pow-suc, div-one, div-div-eq-div-mul}
use native.Mathlib.Omega.{arith}
use lib.ListN.{length, get_or, take, drop}
use lib.Seq.{sets, sets-eq}
use Rattle.std.proofs.lemmas.Grind.{get_or_default_zero}
use Rattle.std.specs.Int.{byte_at, bytes_low_first}
use Rattle.memory.specs.Bytes.{bytes}
use Rattle.memory.proofs.Bytes.{length_bytes}

byte_is : (i n : ℕ) → byte_at i n ≡ n / 256 ^ i % 256
byte_is zero n = ap (λ (m : ℕ). m % 256) (sym (div-one n))
byte_is (suc i) n = refl

pub low_bytes : (i k n : ℕ) → bytes_low_first i k n ≡ bytes k (n / 256 ^ i)
low_bytes i zero n = refl
low_bytes i (suc k) n =
    let e : n / 256 ^ suc i ≡ n / 256 ^ i / 256 = ap (λ (m : ℕ). n / m) (pow-suc 256 i) ∙ sym (div-div-eq-div-mul n (256 ^ i) 256) in
    ap₂ {B = List ℕ} {C = List ℕ} (λ x y. x ∷ y) (byte_is i n) (low_bytes (suc i) k n ∙ ap (bytes k) e)

pub written : (k : ℕ) (l : List ℕ) (i n : ℕ) {b r : List ℕ} → i + k ≤ length l → b ≡ bytes_low_first 0 k n → r ≡ take i l ++ b ++ drop (i + length b) l
    → r ≡ sets l i (bytes k n)
written k l i n {b} h e f =
    let p : b ≡ bytes k n = e ∙ low_bytes 0 k n ∙ ap (bytes k) (div-one n) in
    let q : i + length (bytes k n) ≤ length l = omega (arith, length_bytes k n) in
    f ∙ ap (λ (v : List ℕ). take i l ++ v ++ drop (i + length v) l) p ∙ sym (sets-eq (bytes k n) l i q)

-- word i of v, stored at its place among words of k bytes
pub stored : (k : ℕ) (l v : List ℕ) (i x : ℕ) {n : ℕ} {r : List ℕ} → r ≡ sets l n (bytes k (get_or v i x)) → n ≡ i * k → i < length v
    → r ≡ sets l (i * k) (bytes k (get_or v i 0))
stored k l v i x e f h = e ∙ ap₂ {C = List ℕ} (λ (n m : ℕ). sets l n (bytes k m)) f (get_or_default_zero v i x h)

-- .. and below m, as it was stored
pub below : (m : ℕ) (v : List ℕ) (i x : ℕ) → get_or v i x < m → i < length v → get_or v i 0 < m
below m v i x h k = subst (λ (n : ℕ). n < m) (get_or_default_zero v i x k) h

-- what holds of eight elements holds of each
pub each : (P : ℕ → Type 0) → P 0 → P 1 → P 2 → P 3 → P 4 → P 5 → P 6 → P 7 → (i : ℕ) → i < 8 → P i
each P a b c d e f g h zero l = a
each P a b c d e f g h (suc zero) l = b
each P a b c d e f g h (suc (suc zero)) l = c
each P a b c d e f g h (suc (suc (suc zero))) l = d
each P a b c d e f g h (suc (suc (suc (suc zero)))) l = e
each P a b c d e f g h (suc (suc (suc (suc (suc zero))))) l = f
each P a b c d e f g h (suc (suc (suc (suc (suc (suc zero)))))) l = g
each P a b c d e f g h (suc (suc (suc (suc (suc (suc (suc zero))))))) l = h
each P a b c d e f g h (suc (suc (suc (suc (suc (suc (suc (suc i)))))))) l = absurd (omega arith)
