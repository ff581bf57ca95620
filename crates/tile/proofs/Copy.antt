-- What stands where after bytes, or rows of bytes, that stand apart were copied to places that stand apart.
use mathlib.Core.Path.{◌≡◌, refl, sym, ap, ap₂, subst, ◌∙◌}
use mathlib.Core.List.{List}
use Prim.Native.Nat.{ℕ, zero, suc, ◌+◌, ◌*◌, ◌≤◌, ◌<◌}
use native.Mathlib.Nat.{zero-mul, suc-mul, mul-le-mul_right}
use native.Mathlib.Numerals.{add-one}
use native.Mathlib.Omega.{arith}
use borrow.Author.Tests.{eqb-true, eqb-false, ltb-true, ltb-false}
use lib.Dec.{eqb, ltb}
use lib.ListN.{length, get_or, set, length-set}
use lib.Seq.{get_or-set_same, get_or-set_other}
use Rattle.answer.proofs.Tests.{decide}
use Rattle.tile.specs.Copy.{Inside, zeros, strided_copy, rows_copy}

-- a row of e places ends before a later one begins
pub row_below : (e a b : ℕ) → a < b → a * e + e ≤ b * e
row_below e a b h = omega (arith, mul-le-mul_right {m = 1 + a} {n = b} e (omega arith), suc-mul a e)

-- where rows are e apart, places in two columns are not the same
pub columns_apart : (e a b j k : ℕ) → a < e → b < e → (a ≡ b → ⊥) → a + j * e ≡ b + k * e → ⊥
columns_apart e a b j k f g n h =
    decide (eqb j k)
    (λ t. n (let s = eqb-true j k t in let r : j * e ≡ k * e = ap (λ (x : ℕ). x * e) s in omega arith))
    (λ t. decide (ltb j k)
    (λ u. omega (arith, row_below e j k (ltb-true j k u)))
    (λ u. omega (arith, row_below e k j (omega (arith, eqb-false j k t, ltb-false j k u)))))

-- .. nor are the beginnings of two rows
rows_apart : (e j k : ℕ) → 0 < e → (j ≡ k → ⊥) → j * e ≡ k * e → ⊥
rows_apart e j k f n h =
    decide (ltb j k)
    (λ u. omega (arith, row_below e j k (ltb-true j k u)))
    (λ u. decide (eqb j k) (λ t. n (eqb-true j k t))
    (λ t. omega (arith, row_below e k j (omega (arith, eqb-false j k t, ltb-false j k u)))))

-- ---- bytes that stand apart

module _ (s : List ℕ) (i d : ℕ) (out : List ℕ) (o e : ℕ) where
  strided_length : (k : ℕ) → length (strided_copy k s i d out o e) ≡ length out
  unfolding strided_copy
  strided_length zero = refl
  strided_length (suc k) = length-set (strided_copy k s i d out o e) (o + k * e) (get_or s (i + k * d) 0) ∙ strided_length k

  strided_other : (k p : ℕ) → ((j : ℕ) → j < k → p ≡ o + j * e → ⊥) → get_or (strided_copy k s i d out o e) p 0 ≡ get_or out p 0
  unfolding strided_copy
  strided_other zero p h = refl
  strided_other (suc k) p h =
      get_or-set_other (strided_copy k s i d out o e) (o + k * e) p (get_or s (i + k * d) 0) 0 (h k (omega arith))
      ∙ strided_other k p (λ j g. h j (omega arith))

  strided_at : 0 < e → (k : ℕ) → Inside k 1 o e (length out) → (j : ℕ) → j < k → get_or (strided_copy k s i d out o e) (o + j * e) 0 ≡ get_or s (i + j * d) 0
  unfolding strided_copy
  strided_at f zero h j g = absurd (omega arith)
  strided_at f (suc k) h j g =
      let l = strided_copy k s i d out o e in
      let x = get_or s (i + k * d) 0 in
      decide (eqb j k)
      (λ t. subst (λ (n : ℕ). get_or (set l (o + k * e) x) (o + n * e) 0 ≡ get_or s (i + n * d) 0) (sym (eqb-true j k t))
      (get_or-set_same l (o + k * e) x 0 (omega (arith, strided_length k, h k (omega arith)))))
      (λ t. get_or-set_other l (o + k * e) (o + j * e) x 0 (λ a. rows_apart e j k f (eqb-false j k t) (omega arith))
      ∙ strided_at f k (λ n a. h n (omega arith)) j (omega (arith, eqb-false j k t)))

-- j of k bytes are copied
pub record Copying (k : ℕ) (s : List ℕ) (i d : ℕ) (old : List ℕ) (o e j : ℕ) (new : List ℕ) : Type 0 where
  pub bound : j ≤ k
  pub to : Inside k 1 o e (length old)
  pub from : Inside k 1 i d (length s)
  pub copied : new ≡ strided_copy j s i d old o e

module _ {k : ℕ} {s : List ℕ} {i d : ℕ} {old : List ℕ} {o e : ℕ} where
  pub begin : Inside k 1 o e (length old) → Inside k 1 i d (length s) → Copying k s i d old o e 0 old
  unfolding strided_copy
  begin h g = record { bound = omega arith; to = h; from = g; copied = refl }

  module _ {j : ℕ} {new : List ℕ} (c : Copying k s i d old o e j new) where
    pub same_size : length new ≡ length old
    same_size = ap length c.copied ∙ strided_length s i d old o e j

    pub next : j < k → Copying k s i d old o e (j + 1) (set new (o + j * e) (get_or s (i + j * d) 0))
    unfolding strided_copy
    next h =
        record {
          bound = omega arith;
          to = c.to;
          from = c.from;
          copied =
              ap (λ (l : List ℕ). set l (o + j * e) (get_or s (i + j * d) 0)) c.copied
              ∙ ap (λ (n : ℕ). strided_copy n s i d old o e) (sym (add-one j));
        }

    pub end : k ≤ j → new ≡ strided_copy k s i d old o e
    end h = let x : j ≡ k = omega (arith, c.bound) in c.copied ∙ ap (λ (n : ℕ). strided_copy n s i d old o e) x

-- ---- rows that stand apart

module _ (k : ℕ) (s : List ℕ) (i d : ℕ) (out : List ℕ) (o e : ℕ) where
  pub rows_length : (q : ℕ) → length (rows_copy k q s i d out o e) ≡ length out
  unfolding rows_copy
  rows_length zero = refl
  rows_length (suc q) = strided_length s (i + q) d (rows_copy k q s i d out o e) (o + q) e k ∙ rows_length q

  pub rows_other : (q p : ℕ) → ((b j : ℕ) → b < q → j < k → p ≡ o + b + j * e → ⊥) → get_or (rows_copy k q s i d out o e) p 0 ≡ get_or out p 0
  unfolding rows_copy
  rows_other zero p h = refl
  rows_other (suc q) p h =
      strided_other s (i + q) d (rows_copy k q s i d out o e) (o + q) e k p (λ j g. h q j (omega arith) g)
      ∙ rows_other q p (λ b j g. h b j (omega arith))

  pub rows_at : (q : ℕ) → q ≤ e → Inside k q o e (length out) → (b j : ℕ) → b < q → j < k
      → get_or (rows_copy k q s i d out o e) (o + b + j * e) 0 ≡ get_or s (i + b + j * d) 0
  unfolding rows_copy
  rows_at zero f h b j g u = absurd (omega arith)
  rows_at (suc q) f h b j g u =
      let l = rows_copy k q s i d out o e in
      decide (eqb b q)
      (λ t. subst (λ (n : ℕ). get_or (strided_copy k s (i + q) d l (o + q) e) (o + n + j * e) 0 ≡ get_or s (i + n + j * d) 0) (sym (eqb-true b q t))
      (strided_at s (i + q) d l (o + q) e (omega arith) k (λ n a. omega (arith, rows_length q, h n a)) j u))
      (λ t. strided_other s (i + q) d l (o + q) e k (o + b + j * e)
      (λ n a x. columns_apart e b q j n (omega arith) (omega arith) (eqb-false b q t) (omega arith))
      ∙ rows_at q (omega arith) (λ n a. omega (arith, h n a)) b j (omega (arith, eqb-false b q t)) u)

-- n of the q bytes of each row are copied
pub record RowsCopying (k q : ℕ) (s : List ℕ) (i d : ℕ) (old : List ℕ) (o e n : ℕ) (new : List ℕ) : Type 0 where
  pub some : 0 < k
  pub bound : n ≤ q
  pub to : Inside k q o e (length old)
  pub from : Inside k q i d (length s)
  pub copied : new ≡ rows_copy k n s i d old o e

module _ {k q : ℕ} {s : List ℕ} {i d : ℕ} {old : List ℕ} {o e : ℕ} where
  pub rows_begin : 0 < k → Inside k q o e (length old) → Inside k q i d (length s) → RowsCopying k q s i d old o e 0 old
  unfolding rows_copy
  rows_begin f h g = record { some = f; bound = omega arith; to = h; from = g; copied = refl }

  module _ {n : ℕ} {new : List ℕ} (c : RowsCopying k q s i d old o e n new) where
    pub rows_size : length new ≡ length old
    rows_size = ap length c.copied ∙ rows_length k s i d old o e n

    pub rows_next : n < q → (a b : ℕ) → a ≡ i + n → b ≡ o + n → (last : List ℕ) → last ≡ strided_copy k s a d new b e
        → RowsCopying k q s i d old o e (n + 1) last
    unfolding rows_copy
    rows_next h a b x y last g =
        record {
          some = c.some;
          bound = omega arith;
          to = c.to;
          from = c.from;
          copied =
              g ∙ ap₂ {C = List ℕ} (λ v w. strided_copy k s v d new w e) x y
              ∙ ap (λ (l : List ℕ). strided_copy k s (i + n) d l (o + n) e) c.copied
              ∙ ap (λ (m : ℕ). rows_copy k m s i d old o e) (sym (add-one n));
        }

-- ---- a tile of k rows of q bytes each, side by side

pub some_rows : (k q : ℕ) → k * q ≡ 128 → 0 < k
some_rows zero q h = absurd (omega (arith, zero-mul q))
some_rows (suc k) q h = omega arith

-- its rows lie in it
pub in_tile : (k q : ℕ) → k * q ≡ 128 → Inside k q 0 q 128
in_tile k q h j g = omega (arith, row_below q j k g)

pub zeros_length : (n : ℕ) → length (zeros n) ≡ n
unfolding zeros
zeros_length zero = refl
zeros_length (suc n) = ap suc (zeros_length n)

-- it is filled from s
abbrev pub Filling : ℕ → ℕ → List ℕ → ℕ → ℕ → ℕ → List ℕ → Type 0
Filling k q s i d n r = RowsCopying k q s i d (zeros 128) 0 q n r

module _ {k q : ℕ} {s : List ℕ} {i d : ℕ} where
  pub fill_begin : k * q ≡ 128 → Inside k q i d (length s) → Filling k q s i d 0 (zeros 128)
  fill_begin h g = rows_begin (some_rows k q h) (subst (Inside k q 0 q) (sym (zeros_length 128)) (in_tile k q h)) g
