-- What the code's own operations come to: differences that wrap, products by halves, and Newton's steps.
use Rattle.std.proofs.Common.{◌≡◌, ℕ, suc, ◌+◌, ◌-◌, ◌*◌, ◌/◌, ◌%◌, ◌^◌, ◌<◌, ◌≤◌, sym, ap, ◌∙◌, ap₂, le_refl, lt_of_le_of_lt, le_of_lt, mod-lt, mod-eq_of_lt, mul-le-mul_left, mul-lt-mul_of_pos_right, div-add-mod', arith, pow_pos, pow-add}
use native.Mathlib.Nat.{mod-mod, add-mod-mod, mod-add-mod, add-mul-mod_self_right, mul-add-mod_self_right}
use native.Mathlib.Decide.{dec_le}
use lib.Pow.{split}
use Rattle.word.specs.Word.{plus, minus, times, newton, newtons, inverse}
use Rattle.word.proofs.Modulo.{mul_mod}
use Rattle.word.proofs.Rotation.{shl_is}
use Rattle.word.proofs.Inverse.{mod_pow_le, newtons_right, newtons_lt, one_mod, inverse_lt, inverse_right, inverse_unique}

-- `wrapping_sub`'s result r, from what its contract says of it
pub sub_wrapped : (w r a b : ℕ) → r < 2 ^ w → (r + b) % 2 ^ w ≡ a → r ≡ minus w a b
unfolding minus
sub_wrapped w r a b h e =
    let m : ℕ = 2 ^ w in
    let l : b % m < m = mod-lt b (pow_pos w) in
    let s : r + b + (m - b % m) ≡ r + suc (b / m) * m = omega (arith, div-add-mod' b m) in
    sym (mod-eq_of_lt h) ∙ sym (add-mul-mod_self_right r (suc (b / m)) m) ∙ ap (λ n. n % m) (sym s) ∙ sym (mod-add-mod (r + b) m (m - b % m)) ∙ ap (λ n. (n + (m - b % m)) % m) e

pub mul_fits : (k : ℕ) {a b : ℕ} → a < 2 ^ k → b < 2 ^ k → a * b < 2 ^ (k + k)
mul_fits k {a} {b} ha hb = rw (pow-add 2 k k) (lt_of_le_of_lt (mul-le-mul_left a (le_of_lt hb)) (mul-lt-mul_of_pos_right ha (pow_pos k)))

-- the product of two words of 2 k bits by halves of k bits, none of whose products is wider
pub mul_halves : (k a b : ℕ) → times (k + k) a b ≡ plus (k + k) (a % 2 ^ k * (b % 2 ^ k)) ((a / 2 ^ k * (b % 2 ^ k) + a % 2 ^ k * (b / 2 ^ k)) % 2 ^ k * 2 ^ k)
unfolding times plus
mul_halves k a b =
    let m : ℕ = 2 ^ (k + k) in
    let ah : ℕ = a / 2 ^ k in
    let al : ℕ = a % 2 ^ k in
    let bh : ℕ = b / 2 ^ k in
    let bl : ℕ = b % 2 ^ k in
    let mid : ℕ = ah * bl + al * bh in
    let e : (ah * 2 ^ k + al) * (bh * 2 ^ k + bl) ≡ ah * bh * m + (al * bl + mid * 2 ^ k) = rw (pow-add 2 k k) (omega arith) in
    ap (λ n. n % m) (ap₂ ◌*◌ (sym (split a k)) (sym (split b k)) ∙ e) ∙ mul-add-mod_self_right (ah * bh) m (al * bl + mid * 2 ^ k)
    ∙ sym (add-mod-mod (al * bl) (mid * 2 ^ k) m) ∙ ap (λ n. (al * bl + n) % m) (shl_is k k mid)

plus_low : (w j p q : ℕ) → j ≤ w → plus w p q % 2 ^ j ≡ (p + q) % 2 ^ j
unfolding plus
plus_low w j p q h = mod_pow_le (p + q) j w h

-- the same with the sum in the middle taken modulo the whole word first
pub mul_words : (k a b : ℕ)
    → plus (k + k) (a % 2 ^ k * (b % 2 ^ k)) (plus (k + k) (a / 2 ^ k * (b % 2 ^ k)) (a % 2 ^ k * (b / 2 ^ k)) % 2 ^ k * 2 ^ k) ≡ times (k + k) a b
mul_words k a b =
    ap (λ n. plus (k + k) (a % 2 ^ k * (b % 2 ^ k)) (n * 2 ^ k)) (plus_low (k + k) k _ _ (let h : k ≤ k + k = omega arith in h)) ∙ sym (mul_halves k a b)

-- ---- inverses

-- a step as code has it
pub newton_words : (w a x : ℕ) → times w x (minus w 2 (times w a x)) ≡ newton w a x
unfolding times minus
newton_words w a x = mul_mod (2 ^ w) x _ ∙ ap (λ n. x * (2 + (2 ^ w - n)) % 2 ^ w) (mod-mod (a * x) (2 ^ w))

-- an odd number is its own inverse, in its three low bits
pub odd_square : (a : ℕ) → a % 2 ≡ 1 → a * a % 2 ^ 3 ≡ 1
odd_square a h = go (dec_le (a % 4) 2)
  where
    s : ℕ
    s = a / 4

    go : Dec (a % 4 ≤ 2) → a * a % 8 ≡ 1
    go (yes l) =
        let e : a ≡ 4 * s + 1 = omega arith in
        let q : (4 * s + 1) * (4 * s + 1) ≡ (2 * (s * s) + s) * 8 + 1 = omega arith in
        ap (λ n. n % 8) (ap₂ ◌*◌ e e ∙ q) ∙ mul-add-mod_self_right (2 * (s * s) + s) 8 1
    go (no l) =
        let e : a ≡ 4 * s + 3 = omega arith in
        let q : (4 * s + 3) * (4 * s + 3) ≡ (2 * (s * s) + 3 * s + 1) * 8 + 1 = omega arith in
        ap (λ n. n % 8) (ap₂ ◌*◌ e e ∙ q) ∙ mul-add-mod_self_right (2 * (s * s) + 3 * s + 1) 8 1

-- so many steps from k right bits give the inverse
pub newtons_inverse : (w k n a x : ℕ) → 0 < w → 0 < k → a % 2 ≡ 1 → a * x % 2 ^ k ≡ 1 → w ≤ k * 2 ^ n → x < 2 ^ w → newtons w a n x ≡ inverse w a
newtons_inverse w k n a x hw hk odd e l b =
    inverse_unique (2 ^ w) a (newtons w a n x) (inverse w a) (newtons_right n w k w a x hk hw (le_refl w) l e ∙ one_mod w hw) (inverse_right w a hw odd)
    (newtons_lt n w a x b) (inverse_lt w a hw)

-- the same of a step and n more, from a number of any size
pub more_newtons_inverse : (w k n a x : ℕ) → 0 < w → 0 < k → a % 2 ≡ 1 → a * x % 2 ^ k ≡ 1 → w ≤ k * 2 ^ suc n → newtons w a (suc n) x ≡ inverse w a
more_newtons_inverse w k n a x hw hk odd e l =
    inverse_unique (2 ^ w) a (newtons w a (suc n) x) (inverse w a) (newtons_right (suc n) w k w a x hk hw (le_refl w) l e ∙ one_mod w hw)
    (inverse_right w a hw odd) (newtons_lt n w a (newton w a x) (mod-lt _ (pow_pos w))) (inverse_lt w a hw)

-- five steps from three right bits
pub five_steps : (w a : ℕ) {b c d e f : ℕ} → 0 < w → w ≤ 64 → a % 2 ≡ 1 → b ≡ newton w a a → c ≡ newton w a b → d ≡ newton w a c → e ≡ newton w a d
    → f ≡ newton w a e → f ≡ inverse w a
five_steps w a {f = f} hw most odd p q r s t =
    let all : f ≡ newtons w a 5 a = cc in
    all ∙ more_newtons_inverse w 3 4 a a hw (omega arith) odd (odd_square a odd) (omega arith)
