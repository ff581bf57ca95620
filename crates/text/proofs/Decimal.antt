-- The digits of a number: those that the toolchain's library writes are the definition's.
use mathlib.Core.Path.{◌≡◌, ap, ◌∙◌}
use mathlib.Core.List.{List, [], ◌∷◌, ◌++◌}
use Prim.Native.Nat.{ℕ, zero, suc, ◌+◌, ◌-◌, ◌/◌, ◌%◌, ◌^◌, ◌≤◌, ◌<◌}
use native.Mathlib.Decide.{dec_le}
use native.Mathlib.Nat.{pow-suc, one-le-pow, pow-le-pow_right}
use native.Mathlib.Omega.{arith}
use borrow.Author.Tests.{lt-ltb, le-ltb}
use Rattle.io.specs.Digits as Kit
use Rattle.text.specs.Decimal.{digits, decimal}

one_more : (f g n : ℕ) → Dec (10 ≤ n) → (10 ≤ n → digits f (n / 10) ≡ digits g (n / 10)) → digits (suc f) n ≡ digits (suc g) n
one_more f g n (yes l) k = rw (le-ltb n 10 l) (ap (λ (d : List ℕ). d ++ ((48 + n % 10) ∷ [])) (k l))
one_more f g n (no l) k = let a : n < 10 = omega arith in rw (lt-ltb n 10 a)

enough : (f g n : ℕ) → n < f → n < g → digits f n ≡ digits g n
enough zero g n h k = absurd (omega arith)
enough (suc f) zero n h k = absurd (omega arith)
enough (suc f) (suc g) n h k = one_more f g n (dec_le 10 n) (λ l. enough f g (n / 10) (omega arith) (omega arith))

one_digit : (n : ℕ) → n < 10 → (48 + n) ∷ [] ≡ decimal n
unfolding decimal
one_digit n h = rw (lt-ltb n 10 h)

more_digits : (n : ℕ) → 10 ≤ n → decimal (n / 10) ++ ((48 + n % 10) ∷ []) ≡ decimal n
unfolding decimal
more_digits n h =
    let a : n / 10 < suc (n / 10) = omega arith in
    let b : n / 10 < n = omega arith in
    rw (le-ltb n 10 h) (ap (λ (d : List ℕ). d ++ ((48 + n % 10) ∷ [])) (enough (suc (n / 10)) n (n / 10) a b))

-- the digits that the toolchain's library writes
pub decimal_written : (k n : ℕ) → Kit.IsDigitCount 10 1 n k → Kit.last_digits 10 k n ≡ decimal n
decimal_written zero n h = absurd (omega (arith, h.0))
decimal_written (suc zero) n h =
    let l : n < 10 = h.1 in
    let e : n % 10 ≡ n = omega arith in
    rw (e, lt-ltb n 10 l) (one_digit n l)
decimal_written (suc (suc k)) n h =
    let p = pow-suc 10 k in
    let q = pow-suc 10 (suc k) in
    let e : suc (suc k) - 1 ≡ suc k = omega arith in
    let e' : suc k - 1 ≡ k = omega arith in
    let low : 10 ^ suc k ≤ n = rw e at (h.2 (omega arith)) in
    let m : n % 10 < 10 = omega arith in
    let pos : 0 < 10 ^ k = one-le-pow k 10 (omega arith) in
    let ten : 10 ≤ n = omega (arith, p, low, pos) in
    let f : Kit.IsDigitCount 10 1 (n / 10) (suc k) = (omega arith, omega (arith, q, h.1), λ g. rw e' (omega (arith, p, low))) in
    rw (lt-ltb (n % 10) 10 m) (ap (λ (d : List ℕ). d ++ ((48 + n % 10) ∷ [])) (decimal_written (suc k) (n / 10) f) ∙ more_digits n ten)

-- a number of 64 bits has at most twenty
twenty_by : (k n : ℕ) → Kit.IsDigitCount 10 1 n k → n < 2 ^ 64 → Dec (k ≤ 20) → k ≤ 20
twenty_by k n h l (yes d) = d
twenty_by k n h l (no d) =
    let low : 10 ^ (k - 1) ≤ n = h.2 (omega arith) in
    let up : 20 ≤ k - 1 = omega arith in
    let ten : 0 < 10 = omega arith in
    let p : 10 ^ 20 ≤ 10 ^ (k - 1) = pow-le-pow_right ten up in
    absurd (omega arith)

pub twenty : (k n : ℕ) → Kit.IsDigitCount 10 1 n k → n < 2 ^ 64 → k ≤ 20
twenty k n h l = twenty_by k n h l (dec_le k 20)
