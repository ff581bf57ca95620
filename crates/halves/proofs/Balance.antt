-- Undoing the sums as the code does it comes to the inverse square, for every width.
use mathlib.Core.Path.{◌≡◌, refl, sym, ap, ap₂, ◌∙◌}
use Prim.Native.Nat.{ℕ, ◌+◌, ◌-◌, ◌*◌, ◌%◌, ◌^◌}
use native.Mathlib.Nat.{mod-mod, add-mod-mod, mod-add-mod, add-zero, add_assoc, add_comm, zero-add, add-mod}
use native.Mathlib.Nat.{sub-add_cancel, add-mul-mod_self_right}
use native.Mathlib.Omega.{arith}
use mathlib.Core.List.{List, [], ◌∷◌, map}
use lib.ListN.{length, replicate}
use lib.Pow.{pow_pos}
use Rattle.word.specs.Word.{plus, minus, times, inverse}
use Rattle.word.proofs.Modulo.{cong, mul_mod, whole, cancel}
use Rattle.quasigroup.specs.Product.{pick, both, fold, sum, others}
use Rattle.quasigroup.specs.Tables.{right_sums}
use Rattle.quasigroup.specs.Division.{fifths, dot, unsums, left_inverse, right_inverse}
use Rattle.quasigroup.specs.Square.{apply, add, row}
use Rattle.quasigroup.proofs.Linear.{apply_add, apply_row}
use Rattle.quasigroup.proofs.Sums.{same_is}
use Rattle.quasigroup.proofs.Half.{dot_is}
use Rattle.tables.specs.Places.{plus_places, minus_places}
use Rattle.halves.specs.Balance.{balance, two_fifths}

-- ---- words added and taken away, one at a time

-- the first word taken away, from any number
pub balance_one : (w u x : ℕ) → balance w u [] (x ∷ []) ≡ minus w u x
unfolding balance minus
balance_one w u x = ap₂ (λ m n. (m + (2 ^ w - n % 2 ^ w)) % 2 ^ w) (add-zero u) (add-zero x)

pub balance_plus : (w u x : ℕ) (p n : List ℕ) → balance w u (x ∷ p) n ≡ plus w (balance w u p n) x
unfolding balance plus
balance_plus w u x p n =
    let c : ℕ = 2 ^ w - fold ◌+◌ n % 2 ^ w in
    let e : u + (x + fold ◌+◌ p) + c ≡ u + fold ◌+◌ p + c + x = omega arith in
    ap (λ k. k % 2 ^ w) e ∙ sym (mod-add-mod (u + fold ◌+◌ p + c) (2 ^ w) x)

pub balance_minus : (w u x : ℕ) (p n : List ℕ) → balance w u p (x ∷ n) ≡ minus w (balance w u p n) x
unfolding balance minus
balance_minus w u x p n =
    let m : ℕ = 2 ^ w in
    let N : ℕ = fold ◌+◌ n in
    let a : ℕ = u + fold ◌+◌ p in
    let c : ℕ = m - N % m in
    let d : ℕ = m - x % m in
    let e : a + c + d + (x + N) ≡ a + c + N + d + x = omega arith in
    let same : (a + (m - (x + N) % m) + (x + N)) % m ≡ (a + c + d + (x + N)) % m =
    whole m (pow_pos w) a (x + N) ∙ sym (ap (λ k. k % m) e ∙ whole m (pow_pos w) (a + c + N) x ∙ whole m (pow_pos w) a N) in
    cancel m (a + (m - (x + N) % m)) (a + c + d) (x + N) (pow_pos w) same ∙ sym (mod-add-mod (a + c) m d)

-- ---- sums of words

pub sum_cons : (w k x : ℕ) (l : List ℕ) → sum w k (x ∷ l) ≡ plus w x (sum w k l)
unfolding sum plus
sum_cons w k x l = ap (λ n. n % 2 ^ w) (add_assoc x (fold ◌+◌ l) k) ∙ sym (add-mod-mod x (fold ◌+◌ l + k) (2 ^ w))

pub sum_two : (w x y : ℕ) → sum w 0 (x ∷ y ∷ []) ≡ plus w x y
unfolding sum plus
sum_two w x y = ap (λ n. n % 2 ^ w) (add-zero (x + (y + 0)) ∙ ap (λ n. x + n) (add-zero y))

-- ---- the rows of the inverse square

-- row k of the inverse square, as two, and one for each place of p, less one for each place of n
pub data Rows : List (List ℕ) → List (List ℕ) → List (List ℕ) → Type 0 where
  done : Rows [] [] []
  next : {k p n : List ℕ} {K P N : List (List ℕ)} → add k (row n) ≡ add (row p) (replicate 8 2) → Rows K P N → Rows (k ∷ K) (p ∷ P) (n ∷ N)

module _ (w : ℕ) (s : List ℕ) (l : length s ≡ 8) where
  two_fifths_lem : two_fifths w s % 2 ^ w ≡ 2 * inverse w 5 * fold ◌+◌ s % 2 ^ w
  unfolding two_fifths plus times sum
  two_fifths_lem =
      let m : ℕ = 2 ^ w in
      let i : ℕ = inverse w 5 in
      let t : ℕ = fold ◌+◌ s in
      let a : i * ((t + 0) % m) % m ≡ i * t % m = mul_mod m i (t + 0) ∙ ap (λ n. i * n % m) (add-zero t) in
      let e : i * t + i * t ≡ 2 * i * t = omega arith in
      mod-mod _ m ∙ ap (λ n. (n + n) % m) a ∙ sym (add-mod (i * t) (i * t) m) ∙ ap (λ n. n % m) e

  row_is : (k p n : List ℕ) → add k (row n) ≡ add (row p) (replicate 8 2)
      → balance w (two_fifths w s) (pick p s) (pick n s) ≡ (fifths w * fold ◌+◌ s + dot k s) % 2 ^ w
  unfolding balance
  row_is k p n e =
      let m : ℕ = 2 ^ w in
      let t : ℕ = fold ◌+◌ s in
      let P : ℕ = fold ◌+◌ (pick p s) in
      let N : ℕ = fold ◌+◌ (pick n s) in
      let c : ℕ = m - N % m in
      let a : ℕ = fifths w * t + dot k s in
      let d : dot k s + N ≡ P + 2 * t =
      ap₂ ◌+◌ (dot_is k s) (apply_row ◌+◌ add_assoc add_comm zero-add s n) ∙ sym (apply_add ◌+◌ add_assoc add_comm zero-add k (row n) s)
      ∙ ap (λ r. apply ◌+◌ r s) e ∙ apply_add ◌+◌ add_assoc add_comm zero-add (row p) (replicate 8 2) s
      ∙ ap₂ ◌+◌ (sym (apply_row ◌+◌ add_assoc add_comm zero-add s p)) (same_is 2 s l) in
      let z : a + N ≡ 2 * inverse w 5 * t + P + 2 * t * m = omega (arith, ap (λ x. t * x) (sub-add_cancel (pow_pos w))) in
      let r : a + c + N ≡ a + N + c = omega arith in
      cong m _ _ c c (cong m _ _ P P two_fifths_lem refl ∙ sym (add-mul-mod_self_right (2 * inverse w 5 * t + P) (2 * t) m) ∙ ap (λ x. x % m) (sym z)) refl
      ∙ ap (λ x. x % m) (sym r) ∙ whole m (pow_pos w) a N

  rows_are : {K P N : List (List ℕ)} → Rows K P N → both (λ p n. balance w (two_fifths w s) (pick p s) (pick n s)) P N ≡ unsums w K s
  rows_are done = refl
  rows_are (next {k = k} {p = p} {n = n} e h) = ap₂ {B = List ℕ} (λ x l. x ∷ l) (row_is k p n e) (rows_are h)

  -- the sums undone, of either half
  pub unsummed : {K P N : List (List ℕ)} → Rows K P N → (u : ℕ) → u ≡ two_fifths w s
      → both (λ p n. balance w u (pick p s) (pick n s)) P N ≡ unsums w K s
  unsummed {P = P} {N = N} h u e = ap (λ (x : ℕ). both (λ (p n : List ℕ). balance w x (pick p s) (pick n s)) P N) e ∙ rows_are h

pub left_rows : Rows left_inverse plus_places minus_places
left_rows = next refl (next refl (next refl (next refl (next refl (next refl (next refl (next refl done)))))))

-- the right half adds none and takes away those that its square of sums leaves out
pub right_rows : Rows right_inverse (replicate 8 []) (map others right_sums)
right_rows = next refl (next refl (next refl (next refl (next refl (next refl (next refl (next refl done)))))))
