-- Rotation to the left within w bits.
use Rattle.std.proofs.Common.{◌≡◌, ℕ, zero, suc, ◌+◌, ◌-◌, ◌*◌, ◌/◌, ◌%◌, ◌^◌, ◌<◌, ◌≤◌, sym, ap, ◌∙◌, subst, ap₂, mod-lt, mod-eq_of_lt, mul_comm, add-sub_of_le, add_comm, arith, pow_pos, pow-add, mul-one, add-zero, zero-add, le_of_lt, shl_lt, shr_lt}
use native.Mathlib.Nat.{add-sub_cancel_left, mul-add-mod_self_right, zero-mod, mod_self, div-one, div-eq_of_lt, sub_self, sub-zero, mul-mod_left}
use lib.Arith.{digits_lt}
use lib.Bits.{bit_or, or_shifted}
use Rattle.std.specs.Int.Bits.{or_self}
use Rattle.std.proofs.lemmas.Nat.{or_comm}
use Rattle.word.specs.Word.{rotl}
use lib.Pow.{split, high, low}

module _ (r k : ℕ) where
  -- the r high bits are shifted out
  pub shl_is : (x : ℕ) → (x * 2 ^ r) % 2 ^ (r + k) ≡ x % 2 ^ k * 2 ^ r
  shl_is x =
      let small : x % 2 ^ k * 2 ^ r < 2 ^ (r + k) = rw (add_comm r k) (shl_lt k r (mod-lt x (pow_pos k))) in
      let e : x * 2 ^ r ≡ x / 2 ^ k * 2 ^ (r + k) + x % 2 ^ k * 2 ^ r = rw pow-add (omega (arith, ap (λ n. n * 2 ^ r) (split x k))) in
      ap (λ n. n % 2 ^ (r + k)) e ∙ mul-add-mod_self_right (x / 2 ^ k) (2 ^ (r + k)) (x % 2 ^ k * 2 ^ r) ∙ mod-eq_of_lt small

  -- and stand behind the k low ones
  turned : (x : ℕ) → rotl (r + k) r x ≡ x % 2 ^ k * 2 ^ r + x / 2 ^ k
  unfolding rotl
  turned x = ap₂ ◌+◌ (shl_is x) (ap (λ n. x / 2 ^ n) (add-sub_cancel_left r k))

  turned_lt : (x : ℕ) → x < 2 ^ (r + k) → rotl (r + k) r x < 2 ^ (r + k)
  turned_lt x l = rw (turned x, pow-add 2 r k, mul_comm (2 ^ r) (2 ^ k)) (digits_lt (mod-lt x (pow_pos k)) (shr_lt r k l))

back : (r k x : ℕ) → x < 2 ^ (r + k) → rotl (r + k) k (rotl (r + k) r x) ≡ x
back r k x l =
    let h : x / 2 ^ k < 2 ^ r = shr_lt r k l in
    ap (rotl (r + k) k) (turned r k x) ∙ ap (λ n. rotl n k (x % 2 ^ k * 2 ^ r + x / 2 ^ k)) (add_comm r k)
    ∙ turned k r (x % 2 ^ k * 2 ^ r + x / 2 ^ k) ∙ ap₂ (λ a b. a * 2 ^ k + b) (low (x % 2 ^ k) r h) (high (x % 2 ^ k) r h) ∙ split x k

-- two shifts and an or
or_is : (r k x : ℕ) → x < 2 ^ (r + k) → bit_or ((x * 2 ^ r) % 2 ^ (r + k)) (x / 2 ^ k) ≡ rotl (r + k) r x
or_is r k x l = ap (λ n. bit_or n (x / 2 ^ k)) (shl_is r k x) ∙ or_shifted (x % 2 ^ k) r (x / 2 ^ k) (shr_lt r k l) ∙ sym (turned r k x)

rotl_or : (w r x : ℕ) → r ≤ w → x < 2 ^ w → bit_or ((x * 2 ^ r) % 2 ^ w) (x / 2 ^ (w - r)) ≡ rotl w r x
rotl_or w r x h = subst (λ n. x < 2 ^ n → bit_or ((x * 2 ^ r) % 2 ^ n) (x / 2 ^ (w - r)) ≡ rotl n r x) (add-sub_of_le h) (or_is r (w - r) x)

-- As the library has it: no shift is by the whole width, so that a word turned by 0 is itself twice.
twice : (w x : ℕ) → x < 2 ^ w → bit_or ((x * 2 ^ (0 % w)) % 2 ^ w) (x / 2 ^ ((w - 0 % w) % w)) ≡ x
twice w x l =
    let e : 0 % w ≡ 0 = zero-mod w in
    let f : (w - 0 % w) % w ≡ 0 = ap (λ n. (w - n) % w) e ∙ ap (λ n. n % w) (sub-zero w) ∙ mod_self w in
    ap₂ bit_or (ap (λ n. (x * 2 ^ n) % 2 ^ w) e ∙ ap (λ n. n % 2 ^ w) (mul-one x) ∙ mod-eq_of_lt l) (ap (λ n. x / 2 ^ n) f ∙ div-one x) ∙ or_self x

pub rotated_left : (w r x : ℕ) → r < w → x < 2 ^ w → bit_or ((x * 2 ^ (r % w)) % 2 ^ w) (x / 2 ^ ((w - r % w) % w)) ≡ rotl w r x
unfolding rotl
rotated_left w zero x h l =
    let a : (x * 2 ^ 0) % 2 ^ w ≡ x = ap (λ n. n % 2 ^ w) (mul-one x) ∙ mod-eq_of_lt l in
    let z : x / 2 ^ (w - 0) ≡ 0 = ap (λ n. x / 2 ^ n) (sub-zero w) ∙ div-eq_of_lt l in
    twice w x l ∙ sym (ap₂ ◌+◌ a z ∙ add-zero x)
rotated_left w (suc r) x h l =
    let e : suc r % w ≡ suc r = mod-eq_of_lt h in
    let d : (w - suc r) % w ≡ w - suc r = mod-eq_of_lt (let m : w - suc r < w = omega arith in m) in
    rw (e, d) (rotl_or w (suc r) x (le_of_lt h) l)

-- to the right by r is to the left by the rest of the width
pub rotated_right : (w r x : ℕ) → r < w → x < 2 ^ w → bit_or (x / 2 ^ (r % w)) ((x * 2 ^ ((w - r % w) % w)) % 2 ^ w) ≡ rotl w (w - r) x
unfolding rotl
rotated_right w zero x h l =
    let s : (w - 0 % w) % w ≡ 0 % w =
    ap (λ n. (w - n) % w) (zero-mod w) ∙ ap (λ n. n % w) (sub-zero w) ∙ mod_self w ∙ sym (zero-mod w) in
    let z : (x * 2 ^ (w - 0)) % 2 ^ w ≡ 0 = ap (λ n. (x * 2 ^ n) % 2 ^ w) (sub-zero w) ∙ mul-mod_left x (2 ^ w) in
    let y : x / 2 ^ (w - (w - 0)) ≡ x = ap (λ n. x / 2 ^ (w - n)) (sub-zero w) ∙ ap (λ n. x / 2 ^ n) (sub_self w) ∙ div-one x in
    or_comm (x / 2 ^ (0 % w)) ((x * 2 ^ ((w - 0 % w) % w)) % 2 ^ w)
    ∙ ap₂ (λ m n. bit_or ((x * 2 ^ m) % 2 ^ w) (x / 2 ^ n)) s (sym s) ∙ twice w x l ∙ sym (ap₂ ◌+◌ z y ∙ zero-add x)
rotated_right w (suc r) x h l =
    let e : suc r % w ≡ suc r = mod-eq_of_lt h in
    let d : (w - suc r) % w ≡ w - suc r = mod-eq_of_lt (let m : w - suc r < w = omega arith in m) in
    let b : w - (w - suc r) ≡ suc r = omega arith in
    rw (e, d)
    (or_comm (x / 2 ^ suc r) ((x * 2 ^ (w - suc r)) % 2 ^ w) ∙ ap (λ n. bit_or ((x * 2 ^ (w - suc r)) % 2 ^ w) (x / 2 ^ n)) (sym b)
    ∙ rotl_or w (w - suc r) x (let m : w - suc r ≤ w = omega arith in m) l)

pub rotl_lt : (w r x : ℕ) → r ≤ w → x < 2 ^ w → rotl w r x < 2 ^ w
rotl_lt w r x h = subst (λ n. x < 2 ^ n → rotl n r x < 2 ^ n) (add-sub_of_le h) (turned_lt r (w - r) x)

-- turned by r and then by w - r a word is as it was
pub rotl_back : (w r x : ℕ) → r ≤ w → x < 2 ^ w → rotl w (w - r) (rotl w r x) ≡ x
rotl_back w r x h = subst (λ n. x < 2 ^ n → rotl n (w - r) (rotl n r x) ≡ x) (add-sub_of_le h) (back r (w - r) x)
