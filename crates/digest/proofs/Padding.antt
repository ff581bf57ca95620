-- The padding ends a block, with the fewest zeros, in bytes and in bits: it fills one block or two behind what waits.
use mathlib.Core.Path.{◌≡◌, refl, ap, sym, ◌∙◌}
use mathlib.Core.Logic.{⊎_elim}
use mathlib.Core.List.{List}
use Prim.Native.Nat.{ℕ, ◌+◌, ◌-◌, ◌*◌, ◌/◌, ◌%◌, ◌≤◌, ◌<◌}
use native.Mathlib.Nat.{zero-add, sub-zero, mod-lt, mod-eq_of_lt, mod_self, mod-add-mod, add-mod_right, add-mul-mod_self_right, div-add-mod'}
use native.Mathlib.Nat.{eq-or-lt_of_le}
use native.Mathlib.Decide.{dec_le}
use native.Mathlib.Omega.{arith}
use lib.ListN.{length}
use Rattle.digest.specs.Padding.{gap, ending, Fewest}
use Rattle.digest.specs.Kind.{narrow_kind, wide_kind}

-- of the total only what waits matters to the zeros
gap_mod : (B e t : ℕ) → gap B e t ≡ gap B e (t % B)
gap_mod B e t =
    let a : t + 1 + e ≡ t + (1 + e) = omega arith in
    let b : t % B + 1 + e ≡ t % B + (1 + e) = omega arith in
    let f : (t + 1 + e) % B ≡ (t % B + 1 + e) % B =
    ap (λ (n : ℕ). n % B) a ∙ sym (mod-add-mod t B (1 + e)) ∙ ap (λ (n : ℕ). n % B) (sym b) in
    ap (λ (n : ℕ). (B - n) % B) f

pub ending_waiting : (B t mark bits : ℕ) (w : List ℕ) → length w ≡ t % B → ending B (length w) mark bits ≡ ending B t mark bits
ending_waiting B t mark bits w e =
    let g : gap B 8 (length w) ≡ gap B 8 t = ap (gap B 8) e ∙ sym (gap_mod B 8 t) in
    rw g

module _ (B e : ℕ) (big : e < B) (t : ℕ) where
  -- the one bit's unit and the length fit behind what waits
  pub gap_near : t % B + 1 + e ≤ B → gap B e t + (t % B + 1 + e) ≡ B
  gap_near h = rw (gap_mod B e t) (⊎_elim at_end before_end (eq-or-lt_of_le h))
    where
      n : ℕ
      n = t % B + 1 + e

      at_end : n ≡ B → gap B e (t % B) + n ≡ B
      at_end f = rw (f, mod_self B, sub-zero, mod_self B, zero-add)

      before_end : n < B → gap B e (t % B) + n ≡ B
      before_end l =
          let f : n % B ≡ n = mod-eq_of_lt l in
          let d : B - n < B = omega arith in
          rw (f, mod-eq_of_lt d) (omega arith)

  -- they need a block more
  pub gap_far : B < t % B + 1 + e → gap B e t + (t % B + 1 + e) ≡ B + B
  gap_far h =
      let r = mod-lt t {m = B} (omega arith) in
      let n : ℕ = t % B + 1 + e in
      let s : n ≡ n - B + B = omega arith in
      let l : n - B < B = omega arith in
      let f : n % B ≡ n - B = ap (λ (x : ℕ). x % B) s ∙ add-mod_right (n - B) B ∙ mod-eq_of_lt l in
      let d : B - (n - B) < B = omega arith in
      let g : gap B e t ≡ B - (n - B) = gap_mod B e t ∙ ap (λ (x : ℕ). (B - x) % B) f ∙ mod-eq_of_lt d in
      rw g (omega arith)

  around : (z n : ℕ) → t % B + 1 + e + z ≡ n → (t + 1 + z + e) % B ≡ n % B
  around z n f =
      let d : t / B * B + t % B ≡ t = div-add-mod' t B in
      let g : t + 1 + z + e ≡ n + t / B * B = omega arith in
      ap (λ (x : ℕ). x % B) g ∙ add-mul-mod_self_right n (t / B) B

  gap_ends : (t + 1 + gap B e t + e) % B ≡ 0
  gap_ends = decided (dec_le (t % B + 1 + e) B)
    where
      decided : Dec (t % B + 1 + e ≤ B) → (t + 1 + gap B e t + e) % B ≡ 0
      decided (yes h) = let g = gap_near h in around (gap B e t) B (omega arith) ∙ mod_self B
      decided (no h) = let g = gap_far (omega arith) in around (gap B e t) (B + B) (omega arith) ∙ add-mod_right B B ∙ mod_self B

  gap_fewest : (z : ℕ) → (t + 1 + z + e) % B ≡ 0 → gap B e t ≤ z
  gap_fewest z x = decided (dec_le (gap B e t) z) (dec_le (t % B + 1 + e) B)
    where
      decided : Dec (gap B e t ≤ z) → Dec (t % B + 1 + e ≤ B) → gap B e t ≤ z
      decided (yes h) d = h
      decided (no h) (yes d) =
          let g = gap_near d in
          let l : t % B + 1 + e + z < B = omega arith in
          let f : t % B + 1 + e + z ≡ 0 = sym (mod-eq_of_lt l) ∙ sym (around z (t % B + 1 + e + z) refl) ∙ x in
          omega arith
      decided (no h) (no d) =
          let g = gap_far (omega arith) in
          let n : ℕ = t % B + 1 + e + z - B in
          let l : n < B = omega arith in
          let f : n ≡ 0 = sym (mod-eq_of_lt l) ∙ sym (add-mod_right n B) ∙ sym (around z (n + B) (omega arith)) ∙ x in
          omega arith

  pub fewest : Fewest B e t
  fewest = record { ends = gap_ends; fewest = gap_fewest }

pub narrow_fewest : (t : ℕ) → Fewest narrow_kind.block 8 t
narrow_fewest = fewest narrow_kind.block 8 (omega arith)

pub wide_fewest : (t : ℕ) → Fewest wide_kind.block 8 t
wide_fewest = fewest wide_kind.block 8 (omega arith)
