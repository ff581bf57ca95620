-- Eight sums modulo m by a square of ones and zeros, and the square that undoes them.
-- With A the square (five ones a row, five a column) and J all ones, A has over the whole numbers a K with A K = K A = I + 8 J,
-- and K's entries are 0 to 3. So t J + K undoes A modulo m for each t with 5 t + 8 = 0 modulo m (t = 2/5 - 2).
use mathlib.Core.Path.{◌≡◌, refl, sym, ap, ap₂, ◌∙◌, subst}
use Prim.Native.Nat.{ℕ, zero, suc, ◌+◌, ◌*◌, ◌%◌}
use native.Mathlib.Nat.{mod-mod, add_assoc, add_comm, zero-add, zero-mul, suc-mul, one-mul, add-mul-mod_self_right}
use mathlib.Core.List.{List, [], ◌∷◌, map}
use lib.ListN.{length, length-map, replicate}
use native.Mathlib.Omega.{arith}
use Rattle.quasigroup.specs.Square.{repeat, apply, act, mul, combine, add, row, ident}
use Rattle.quasigroup.proofs.Linear.{gathers, act_act, act_ident, gathers_act, apply_act, apply_add}
use Rattle.word.proofs.Modulo.{cong, mul_mod}
use Rattle.quasigroup.specs.Product.{fold}
use Rattle.quasigroup.proofs.Modulo.{reduce, reduce_reduce, act_mod}

abbrev pub total : List ℕ → ℕ
total = fold ◌+◌

pub repeat_is : (a x : ℕ) → repeat ◌+◌ a x ≡ a * x
repeat_is zero x = sym (zero-mul x)
repeat_is (suc a) x = ap (λ n. x + n) (repeat_is a x) ∙ add_comm x (a * x) ∙ sym (suc-mul a x)

apply_same : (a : ℕ) (v : List ℕ) → apply ◌+◌ (replicate (length v) a) v ≡ a * total v
apply_same a [] = omega arith
apply_same a (x ∷ v) = ap₂ ◌+◌ (repeat_is a x) (apply_same a v) ∙ omega arith

total_mod : (m : ℕ) (v : List ℕ) → total (reduce m v) % m ≡ total v % m
total_mod m [] = refl
total_mod m (x ∷ v) = cong m _ _ _ _ (mod-mod x m) (total_mod m v)

ident_is : (s : List ℕ) → length s ≡ 8 → act ◌+◌ (ident 8) s ≡ s
ident_is s l = subst (λ n. act ◌+◌ (ident n) s ≡ s) l (act_ident ◌+◌ add_assoc add_comm zero-add s)

pub same_is : (a : ℕ) (s : List ℕ) → length s ≡ 8 → apply ◌+◌ (replicate 8 a) s ≡ a * total s
same_is a s l = subst (λ n. apply ◌+◌ (replicate n a) s ≡ a * total s) l (apply_same a s)

act_add : (e : List ℕ) (M : List (List ℕ)) (v : List ℕ) → act ◌+◌ (map (λ r. add r e) M) v ≡ map (λ x. x + apply ◌+◌ e v) (act ◌+◌ M v)
act_add e [] v = refl
act_add e (r ∷ M) v = ap₂ {B = List ℕ} (λ x l. x ∷ l) (apply_add ◌+◌ add_assoc add_comm zero-add r e v) (act_add e M v)

act_cons : (a c : ℕ) (M : List (List ℕ)) (v : List ℕ) → act ◌+◌ (map (λ r. a ∷ r) M) (c ∷ v) ≡ map (λ x. x + a * c) (act ◌+◌ M v)
act_cons a c [] v = refl
act_cons a c (r ∷ M) v =
    ap₂ {B = List ℕ} (λ x l. x ∷ l) (ap (λ n. n + apply ◌+◌ r v) (repeat_is a c) ∙ add_comm (a * c) (apply ◌+◌ r v)) (act_cons a c M v)

shift_mod : (m a b q : ℕ) (v : List ℕ) → a + b ≡ q * m → reduce m (map (λ x. x + b) (map (λ x. x + a) v)) ≡ reduce m v
shift_mod m a b q [] h = refl
shift_mod m a b q (x ∷ v) h =
    let e : x + a + b ≡ x + q * m = omega arith in
    ap₂ {B = List ℕ} (λ x l. x ∷ l) (ap (λ n. n % m) e ∙ add-mul-mod_self_right x q m) (shift_mod m a b q v h)

abbrev pub eights : List ℕ
eights = replicate 8 8

-- what is computed of the places P that the sums take, and of K
pub record Undone (P K : List (List ℕ)) : Type 0 where
  pub count : length P ≡ 8
  pub rows : length K ≡ 8
  pub after : mul (map row P) (map (λ k. 1 ∷ k) K) ≡ map (λ r. 5 ∷ r) (map (λ r. add r eights) (ident 8))
  pub before : mul K (map row P) ≡ map (λ r. add r eights) (ident 8)
  pub columns : combine (replicate 8 1) (map row P) ≡ replicate 8 5

abbrev pub gathered : ℕ → List (List ℕ) → List ℕ → List ℕ
gathered m P v = reduce m (gathers ◌+◌ P v)

module _ (m t : ℕ) where
  abbrev pub ungathered : List (List ℕ) → List ℕ → List ℕ
  ungathered K s = reduce m (act ◌+◌ (map (λ k. 1 ∷ k) K) (t * total s ∷ s))

  ungathered_mod : (K : List (List ℕ)) (u : List ℕ) → ungathered K (reduce m u) ≡ ungathered K u
  ungathered_mod K u =
      let A : List (List ℕ) = map (λ k. 1 ∷ k) K in
      sym (act_mod m A (t * total (reduce m u) ∷ reduce m u))
      ∙ ap₂ (λ n l. reduce m (act ◌+◌ A (n ∷ l))) (sym (mul_mod m t (total (reduce m u))) ∙ ap (λ n. t * n % m) (total_mod m u) ∙ mul_mod m t (total u)) (reduce_reduce m u)
      ∙ act_mod m A (t * total u ∷ u)

  module _ (q : ℕ) (ht : 5 * t + 8 ≡ q * m) (P K : List (List ℕ)) (h : Undone P K) where
    to_act : (v : List ℕ) → gathers ◌+◌ P v ≡ act ◌+◌ (map row P) v
    to_act v = gathers_act ◌+◌ add_assoc add_comm zero-add P v

    pub gathered_ungathered : (s : List ℕ) → length s ≡ 8 → gathered m P (ungathered K s) ≡ reduce m s
    gathered_ungathered s l =
        let c : ℕ = t * total s in
        let d : apply ◌+◌ eights s ≡ 8 * total s = same_is 8 s l in
        let z : apply ◌+◌ eights s + 5 * c ≡ total s * q * m = omega (arith, ap (λ n. total s * n) ht) in
        ap (reduce m) (to_act (ungathered K s))
        ∙ act_mod m (map row P) (act ◌+◌ (map (λ k. 1 ∷ k) K) (c ∷ s))
        ∙ ap (reduce m)
        (act_act ◌+◌ add_assoc add_comm zero-add (map row P) (map (λ k. 1 ∷ k) K) (c ∷ s)
        ∙ ap (λ A. act ◌+◌ A (c ∷ s)) h.after
        ∙ act_cons 5 c (map (λ r. add r eights) (ident 8)) s
        ∙ ap (map (λ x. x + 5 * c)) (act_add eights (ident 8) s ∙ ap (map (λ x. x + apply ◌+◌ eights s)) (ident_is s l)))
        ∙ shift_mod m (apply ◌+◌ eights s) (5 * c) (total s * q) s z

    pub ungathered_gathered : (v : List ℕ) → length v ≡ 8 → ungathered K (gathered m P v) ≡ reduce m v
    ungathered_gathered v l =
        let u : List ℕ = act ◌+◌ (map row P) v in
        let d : apply ◌+◌ eights v ≡ 8 * total v = same_is 8 v l in
        let e : total u ≡ 5 * total v =
        sym (one-mul (total u)) ∙ sym (same_is 1 u (simp length-map h.count))
        ∙ apply_act ◌+◌ add_assoc add_comm zero-add (replicate 8 1) (map row P) v ∙ ap (λ r. apply ◌+◌ r v) h.columns ∙ same_is 5 v l in
        let z : apply ◌+◌ eights v + 1 * (t * total u) ≡ total v * q * m =
        ap₂ (λ a b. a + 1 * (t * b)) d e ∙ omega (arith, ap (λ n. total v * n) ht) in
        ungathered_mod K (gathers ◌+◌ P v)
        ∙ ap (ungathered K) (to_act v)
        ∙ ap (reduce m)
        (act_cons 1 (t * total u) K u
        ∙ ap (map (λ x. x + 1 * (t * total u)))
        (act_act ◌+◌ add_assoc add_comm zero-add K (map row P) v
        ∙ ap (λ A. act ◌+◌ A v) h.before ∙ act_add eights (ident 8) v ∙ ap (map (λ x. x + apply ◌+◌ eights v)) (ident_is v l)))
        ∙ shift_mod m (apply ◌+◌ eights v) (1 * (t * total u)) (total v * q) v z
