-- The inverse of an odd number modulo 2 ^ w, by Newton's step.
use Rattle.std.proofs.Common.{◌≡◌, ℕ, zero, suc, ◌+◌, ◌-◌, ◌*◌, ◌/◌, ◌%◌, ◌^◌, ◌<◌, ◌≤◌, sym, ap, ◌∙◌, le_trans, le_refl, le_of_lt, mod-lt, mod-eq_of_lt, mul_assoc, pow-suc, div-add-mod', mul-one, sub-add_cancel, le-mul_of_pos_right, arith, pow_pos, pow-add}
use native.Mathlib.Nat.{add-mul-mod_self_right, mul-add-mod_self_right, mod-mod_of_dvd, dvd-mul_left}
use native.Mathlib.Decide.{dec_le}
use lib.Pow.{pow-lt}
use Rattle.word.specs.Word.{newton, newtons, inverse}
use Rattle.word.proofs.Modulo.{mul_mod}

-- the power of a smaller exponent is a factor
pow_split : (j k : ℕ) → j ≤ k → 2 ^ k ≡ 2 ^ (k - j) * 2 ^ j
pow_split j k h = ap (λ n. 2 ^ n) (sym (sub-add_cancel h)) ∙ pow-add 2 (k - j) j

-- fewer bits of a number: `x % 2 ^ k % 2 ^ j`
pub mod_pow_le : (x j k : ℕ) → j ≤ k → x % 2 ^ k % 2 ^ j ≡ x % 2 ^ j
mod_pow_le x j k h = mod-mod_of_dvd (2 ^ j) x (subst⁻ (2 ^ k) (pow_split j k h))
  where
    subst⁻ : (n : ℕ) → n ≡ 2 ^ (k - j) * 2 ^ j → Prim.Native.Nat.◌∣◌ (2 ^ j) n
    subst⁻ n e = rw e (dvd-mul_left (2 ^ j) (2 ^ (k - j)))

-- y (2 - y) is 1 less the square of y - 1
square : (y N r d e c : ℕ) → c + r ≡ N → y ≡ d * N + r → y ≡ e + 1 → y * (2 + c) + e * e ≡ (y + y * d) * N + 1
square y N r d e c f h g = omega (arith, ap (λ n. y * n) f, ap (λ n. y * n) h, ap (λ n. y * n) g, ap (λ n. n * e) g)

-- a step takes k right bits to twice as many, as far as the word goes
pub newton_right : (w k j a x : ℕ) → j ≤ w → j ≤ k + k → a * x % 2 ^ k ≡ 1 → a * newton w a x % 2 ^ j ≡ 1 % 2 ^ j
newton_right w k j a x hw hk e =
    let N : ℕ = 2 ^ w in
    let M : ℕ = 2 ^ j in
    let K : ℕ = 2 ^ k in
    let y : ℕ = a * x in
    let c : ℕ = N - y % N in
    let q : ℕ = y / K in
    let n : ℕ = 2 ^ (w - j) in
    let z : ℕ = 2 ^ (k + k - j) in
    let sq : y * (2 + c) + (q * K) * (q * K) ≡ (y + y * (y / N)) * N + 1 =
    square y N (y % N) (y / N) (q * K) c (sub-add_cancel (le_of_lt (mod-lt y (pow_pos w)))) (sym (div-add-mod' y N)) (sym (div-add-mod' y K) ∙ ap (λ m. q * K + m) e) in
    let KK : K * K ≡ z * M = sym (pow-add 2 k k) ∙ pow_split j (k + k) hk in
    let ee : (q * K) * (q * K) ≡ q * q * z * M = omega (arith, ap (λ m. q * q * m) KK) in
    let NN : (y + y * (y / N)) * N ≡ (y + y * (y / N)) * n * M = ap (λ m. (y + y * (y / N)) * m) (pow_split j w hw) ∙ sym (mul_assoc (y + y * (y / N)) n M) in
    sym (mod_pow_le (a * newton w a x) j w hw)
    ∙ ap (λ m. m % M) (mul_mod N a (x * (2 + c)) ∙ ap (λ m. m % N) (sym (mul_assoc a x (2 + c))))
    ∙ mod_pow_le (y * (2 + c)) j w hw
    ∙ sym (add-mul-mod_self_right (y * (2 + c)) (q * q * z) M)
    ∙ ap (λ m. m % M) (ap (λ m. y * (2 + c) + m) (sym ee) ∙ sq ∙ ap (λ m. m + 1) NN)
    ∙ mul-add-mod_self_right ((y + y * (y / N)) * n) M 1

pub one_mod : (k : ℕ) → 0 < k → 1 % 2 ^ k ≡ 1
one_mod k h = mod-eq_of_lt (pow-lt h)

-- n steps take k right bits to k times 2 ^ n
pub newtons_right : (n w k j a x : ℕ) → 0 < k → 0 < w → j ≤ w → j ≤ k * 2 ^ n → a * x % 2 ^ k ≡ 1 → a * newtons w a n x % 2 ^ j ≡ 1 % 2 ^ j
newtons_right zero w k j a x hk hw hj l e = sym (mod_pow_le (a * x) j k (omega arith)) ∙ ap (λ m. m % 2 ^ j) e
newtons_right (suc n) w k j a x hk hw hj l e = go (dec_le (k + k) w) (λ k'. newtons_right n w k' j a (newton w a x))
  where
    go : Dec (k + k ≤ w)
        → ((k' : ℕ) → 0 < k' → 0 < w → j ≤ w → j ≤ k' * 2 ^ n → a * newton w a x % 2 ^ k' ≡ 1 → a * newtons w a n (newton w a x) % 2 ^ j ≡ 1 % 2 ^ j)
        → a * newtons w a n (newton w a x) % 2 ^ j ≡ 1 % 2 ^ j
    go (yes f) ih =
        ih (k + k) (omega arith) hw hj (omega (arith, ap (λ m. k * m) (pow-suc 2 n)))
        (newton_right w k (k + k) a x f (le_refl (k + k)) e ∙ one_mod (k + k) (omega arith))
    go (no f) ih =
        ih w hw hw hj (le_trans hj (le-mul_of_pos_right w (pow_pos n)))
        (newton_right w k w a x (le_refl w) (omega arith) e ∙ one_mod w hw)

pub newtons_lt : (n w a x : ℕ) → x < 2 ^ w → newtons w a n x < 2 ^ w
newtons_lt zero w a x h = h
newtons_lt (suc n) w a x h = newtons_lt n w a (newton w a x) (mod-lt _ (pow_pos w))

below_pow : (n : ℕ) → n < 2 ^ n
below_pow zero = le_refl 1
below_pow (suc n) = let h : n < 2 ^ n = below_pow n in omega (arith, pow-suc 2 n)

pub inverse_right : (w a : ℕ) → 0 < w → a % 2 ≡ 1 → a * inverse w a % 2 ^ w ≡ 1
inverse_right w a hw h =
    newtons_right w w 1 w a 1 (le_refl 1) hw (le_refl w) (let b : w < 2 ^ w = below_pow w in omega arith) (ap (λ m. m % 2) (mul-one a) ∙ h) ∙ one_mod w hw

pub inverse_lt : (w a : ℕ) → 0 < w → inverse w a < 2 ^ w
inverse_lt w a h = newtons_lt w w a 1 (pow-lt h)

-- two inverses that are words are one
pub inverse_unique : (m a x y : ℕ) → a * x % m ≡ 1 → a * y % m ≡ 1 → x < m → y < m → x ≡ y
inverse_unique m a x y p q hx hy =
    sym (mod-eq_of_lt hx) ∙ ap (λ n. n % m) (sym (mul-one x)) ∙ ap (λ n. x * n % m) (sym q) ∙ mul_mod m x (a * y)
    ∙ ap (λ n. n % m) (omega arith) ∙ sym (mul_mod m y (a * x)) ∙ ap (λ n. y * n % m) p ∙ ap (λ n. n % m) (mul-one y) ∙ mod-eq_of_lt hy
