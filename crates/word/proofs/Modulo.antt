-- Numbers modulo m.
use Rattle.std.proofs.Common.{◌≡◌, ℕ, zero, suc, ◌+◌, ◌-◌, ◌*◌, ◌/◌, ◌%◌, ◌<◌, sym, refl, ap, ◌∙◌, ap₂, mod-lt, mul_assoc, div-add-mod', mul-add, arith}
use native.Mathlib.Nat.{add-mod, mul-add-mod_self_right, add-mul-mod_self_right}

module _ (m : ℕ) where
  -- a sum's remainder is that of its parts' remainders
  pub cong : (a b c d : ℕ) → a % m ≡ b % m → c % m ≡ d % m → (a + c) % m ≡ (b + d) % m
  cong a b c d p q = add-mod a c m ∙ ap₂ (λ x y. (x + y) % m) p q ∙ sym (add-mod b d m)

  pub mul_mod : (t x : ℕ) → t * (x % m) % m ≡ t * x % m
  mul_mod t x =
      sym (ap (λ n. t * n % m) (sym (div-add-mod' x m)) ∙ ap (λ n. n % m) (mul-add t (x / m * m) (x % m) ∙ ap (λ n. n + t * (x % m)) (sym (mul_assoc t (x / m) m)))
      ∙ mul-add-mod_self_right (t * (x / m)) m (t * (x % m)))

  module _ (pos : zero < m) where
    -- y and its complement come to m, whatever y is
    pub whole : (x y : ℕ) → (x + (m - y % m) + y) % m ≡ x % m
    whole x y =
        let l : y % m < m = mod-lt y pos in
        let d : y / m * m + y % m ≡ y = div-add-mod' y m in
        let e : x + (m - y % m) + y ≡ x + suc (y / m) * m = omega arith in
        ap (λ n. n % m) e ∙ add-mul-mod_self_right x (suc (y / m)) m

-- what is added on both sides may go
pub cancel : (m a b c : ℕ) → 0 < m → (a + c) % m ≡ (b + c) % m → a % m ≡ b % m
cancel m a b c pos e =
    let d : ℕ = m - c % m in
    let p : a + d + c ≡ a + c + d = omega arith in
    let q : b + c + d ≡ b + d + c = omega arith in
    sym (whole m pos a c) ∙ ap (λ n. n % m) p ∙ cong m (a + c) (b + c) d d e refl ∙ ap (λ n. n % m) q ∙ whole m pos b c
