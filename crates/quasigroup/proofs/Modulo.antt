-- Lists of numbers modulo m: sums by a square, sums place by place, and what undoes them.
use mathlib.Core.Path.{◌≡◌, refl, ap, ap₂, ◌∙◌}
use Prim.Native.Nat.{ℕ, zero, suc, ◌+◌, ◌-◌, ◌%◌, ◌<◌}
use native.Mathlib.Nat.{mod-lt, mod-mod, mod-eq_of_lt, suc_inj}
use mathlib.Core.List.{List, [], ◌∷◌, map}
use lib.ListN.{length}
use mathlib.Core.Bool.{Bool, true, false, ◌&&◌}
use lib.Dec.{T, ltb, ltb→lt}
use native.Mathlib.Omega.{arith}
use Rattle.word.proofs.Modulo.{cong, whole}
use Rattle.quasigroup.specs.Vector.{Below, none, more}
use Rattle.quasigroup.specs.Square.{repeat, apply, act, add}

-- whether every element is below m, as a test that is computed, for lists that are written out
abbrev pub belowb : ℕ → List ℕ → Bool
belowb m [] = true
belowb m (x ∷ v) = ltb x m && belowb m v

T-both : (a b : Bool) → T (a && b) → T a × T b
T-both true b t = (tt, t)
T-both false b t = absurd t

pub below_test : (m : ℕ) (v : List ℕ) → T (belowb m v) → Below m v
below_test m [] t = none
below_test m (x ∷ v) t = let p : T (ltb x m) × T (belowb m v) = T-both (ltb x m) (belowb m v) t in more (ltb→lt x m p.0) (below_test m v p.1)

abbrev pub reduce : ℕ → List ℕ → List ℕ
reduce m v = map (λ x. x % m) v

pub reduce_below : (m : ℕ) → zero < m → (v : List ℕ) → Below m (reduce m v)
reduce_below m h [] = none
reduce_below m h (x ∷ v) = more (mod-lt x h) (reduce_below m h v)

pub reduce_id : {m : ℕ} {v : List ℕ} → Below m v → reduce m v ≡ v
reduce_id none = refl
reduce_id (more h b) = ap₂ {B = List ℕ} (λ x l. x ∷ l) (mod-eq_of_lt h) (reduce_id b)

module _ (m : ℕ) where
  repeat_mod : (a x : ℕ) → repeat ◌+◌ a (x % m) % m ≡ repeat ◌+◌ a x % m
  repeat_mod zero x = refl
  repeat_mod (suc a) x = cong m _ _ _ _ (mod-mod x m) (repeat_mod a x)

  pub apply_mod : (r v : List ℕ) → apply ◌+◌ r (reduce m v) % m ≡ apply ◌+◌ r v % m
  apply_mod [] v = refl
  apply_mod (a ∷ r) [] = refl
  apply_mod (a ∷ r) (x ∷ v) = cong m _ _ _ _ (repeat_mod a x) (apply_mod r v)

  -- a sum may be reduced before a square acts on it
  pub act_mod : (A : List (List ℕ)) (v : List ℕ) → reduce m (act ◌+◌ A (reduce m v)) ≡ reduce m (act ◌+◌ A v)
  act_mod [] v = refl
  act_mod (r ∷ A) v = ap₂ {B = List ℕ} (λ x l. x ∷ l) (apply_mod r v) (act_mod A v)

  pub reduce_reduce : (v : List ℕ) → reduce m (reduce m v) ≡ reduce m v
  reduce_reduce [] = refl
  reduce_reduce (x ∷ v) = ap₂ {B = List ℕ} (λ x l. x ∷ l) (mod-mod x m) (reduce_reduce v)

  -- ---- addition of words, place by place

  abbrev pub adds : List ℕ → List ℕ → List ℕ
  adds p q = reduce m (add p q)

  abbrev pub negate : List ℕ → List ℕ
  negate v = map (λ x. m - x % m) v

  abbrev pub subs : List ℕ → List ℕ → List ℕ
  subs p q = adds p (negate q)

  pub adds_mod : (p q : List ℕ) → adds (reduce m p) q ≡ adds p q
  adds_mod [] q = refl
  adds_mod (x ∷ p) [] = reduce_reduce (x ∷ p)
  adds_mod (x ∷ p) (y ∷ q) = ap₂ {B = List ℕ} (λ x l. x ∷ l) (cong m _ _ _ _ (mod-mod x m) refl) (adds_mod p q)

  module _ (pos : zero < m) where
    pub adds_subs : (p q : List ℕ) → length p ≡ length q → adds (subs p q) q ≡ reduce m p
    adds_subs [] [] e = refl
    adds_subs [] (y ∷ q) e = absurd (let z : ◌≡◌ {A = ℕ} 0 (suc (length q)) = e in omega arith)
    adds_subs (x ∷ p) [] e = absurd (let z : ◌≡◌ {A = ℕ} (suc (length p)) 0 = e in omega arith)
    adds_subs (x ∷ p) (y ∷ q) e =
        ap₂ {B = List ℕ} (λ x l. x ∷ l) (cong m _ _ _ _ (mod-mod (x + (m - y % m)) m) refl ∙ whole m pos x y) (adds_subs p q (suc_inj e))

    pub subs_adds : (p q : List ℕ) → length p ≡ length q → subs (adds p q) q ≡ reduce m p
    subs_adds [] [] e = refl
    subs_adds [] (y ∷ q) e = absurd (let z : ◌≡◌ {A = ℕ} 0 (suc (length q)) = e in omega arith)
    subs_adds (x ∷ p) [] e = absurd (let z : ◌≡◌ {A = ℕ} (suc (length p)) 0 = e in omega arith)
    subs_adds (x ∷ p) (y ∷ q) e =
        let s : x + y + (m - y % m) ≡ x + (m - y % m) + y = omega arith in
        ap₂ {B = List ℕ} (λ x l. x ∷ l) (cong m _ _ _ _ (mod-mod (x + y) m) refl ∙ ap (λ n. n % m) s ∙ whole m pos x y) (subs_adds p q (suc_inj e))
