-- The bytes of both halves in turn, and again: the transpose of twice as many rows each time.
use mathlib.Core.Path.{◌≡◌, sym, ap, ap₂, ◌∙◌}
use mathlib.Core.List.{List}
use Prim.Native.Nat.{ℕ, suc, ◌+◌, ◌*◌, ◌/◌, ◌%◌, ◌-◌, ◌^◌, ◌≤◌, ◌<◌}
use native.Mathlib.Nat.{suc-mul, add-mul, mul_comm, mul_assoc, mul-le-mul_right, pow-succ'}
use native.Mathlib.Numerals.{add-one}
use native.Mathlib.Omega.{arith}
use borrow.Author.Tests.{eqb-true, eqb-false}
use lib.Dec.{eqb, lit≤}
use lib.Pow.{pow_pos, pow-add}
use lib.ListN.{length, get_or, set, length-set}
use lib.Seq.{get_or-set_same, get_or-set_other}
use Rattle.answer.proofs.Tests.{decide}
use Rattle.shuffle.specs.Transposed.{transposed}
use Rattle.shuffle.proofs.Transposed.{transposed_length, transposed_at, by_rows}

-- ---- the loop over both halves

-- the first n bytes of both halves of x stand in turn in r
pub record Interleaving (x : List ℕ) (n : ℕ) (r : List ℕ) : Type 0 where
  pub bound : n ≤ 64
  pub size : length r ≡ 128
  pub turns : (b e : ℕ) → b < n → e < 2 → get_or r (b * 2 + e) 0 ≡ get_or x (e * 64 + b) 0

module _ (x : List ℕ) where
  pub interleaving_none : (r : List ℕ) → length r ≡ 128 → Interleaving x 0 r
  interleaving_none r h = record { bound = omega arith; size = h; turns = λ b e f g. absurd (omega arith) }

  module _ {n : ℕ} {r : List ℕ} (w : Interleaving x n r) where
    pub interleaving_next : n < 64 → Interleaving x (n + 1) (set (set r (2 * n) (get_or x n 0)) (2 * n + 1) (get_or x (n + 64) 0))
    interleaving_next h =
        let l = set r (2 * n) (get_or x n 0) in
        let y = get_or x (n + 64) 0 in
        let s = length-set r (2 * n) (get_or x n 0) in
        record {
          bound = omega arith;
          size = length-set l (2 * n + 1) y ∙ s ∙ w.size;
          turns = λ b e f g.
              decide (eqb (b * 2 + e) (2 * n + 1))
              (λ t.
              let p = eqb-true (b * 2 + e) (2 * n + 1) t in
              let q : n + 64 ≡ e * 64 + b = omega arith in
              ap (λ (i : ℕ). get_or (set l (2 * n + 1) y) i 0) p ∙ get_or-set_same l (2 * n + 1) y 0 (omega (arith, s, w.size)) ∙ ap (λ (i : ℕ). get_or x i 0) q)
              (λ t.
              get_or-set_other l (2 * n + 1) (b * 2 + e) y 0 (eqb-false (b * 2 + e) (2 * n + 1) t)
              ∙ decide (eqb (b * 2 + e) (2 * n))
              (λ u.
              let p = eqb-true (b * 2 + e) (2 * n) u in
              let q : n ≡ e * 64 + b = omega arith in
              ap (λ (i : ℕ). get_or l i 0) p ∙ get_or-set_same r (2 * n) (get_or x n 0) 0 (omega (arith, w.size)) ∙ ap (λ (i : ℕ). get_or x i 0) q)
              (λ u.
              get_or-set_other r (2 * n) (b * 2 + e) (get_or x n 0) 0 (eqb-false (b * 2 + e) (2 * n) u)
              ∙ w.turns b e (omega (arith, eqb-false (b * 2 + e) (2 * n) u, eqb-false (b * 2 + e) (2 * n + 1) t)) g));
        }

    pub interleaving_all : 64 ≤ n → r ≡ transposed 2 64 x
    interleaving_all h =
        by_rows 2 64 (lit≤ tt) r (transposed 2 64 x) w.size (transposed_length 2 64 x)
        (λ b e f g. w.turns b e (omega arith) g ∙ sym (transposed_at 2 64 x b e f g))

-- ---- twice as many rows

twice : (a n : ℕ) → a * (2 * n) ≡ 2 * (a * n)
twice a n = sym (mul_assoc a 2 n) ∙ ap (λ (x : ℕ). x * n) (mul_comm a 2) ∙ mul_assoc 2 a n

-- n rows of 2 m bytes
module _ (n m : ℕ) (s : List ℕ) where
  abbrev once : List ℕ
  once = transposed n (2 * m) s

  -- byte b of column a, or of the one m columns on, as e is 0 or 1
  pair_at : (a b e : ℕ) → a < m → b < n → e < 2 → get_or (transposed 2 (m * n) once) ((a * n + b) * 2 + e) 0 ≡ get_or s ((b * 2 + e) * m + a) 0
  pair_at a b e f g h =
      let p : e * (m * n) + (a * n + b) ≡ (e * m + a) * n + b = omega (arith, mul_assoc e m n, add-mul (e * m) a n) in
      let q : b * (2 * m) + (e * m + a) ≡ (b * 2 + e) * m + a = omega (arith, add-mul (b * 2) e m, mul_assoc b 2 m) in
      transposed_at 2 (m * n) once (a * n + b) e (omega (arith, mul-le-mul_right {m = 1 + a} {n = m} n (omega arith), suc-mul a n)) h
      ∙ ap (λ (i : ℕ). get_or once i 0) p
      ∙ transposed_at n (2 * m) s (e * m + a) b (omega (arith, mul-le-mul_right {m = e} {n = 1} m (omega arith))) g
      ∙ ap (λ (i : ℕ). get_or s i 0) q

  -- the bytes of both halves of their transpose in turn are the transpose of 2 n rows of m bytes
  pub doubled : 0 < n → transposed 2 (m * n) once ≡ transposed (2 * n) m s
  doubled positive =
      by_rows (2 * n) m (omega arith) (transposed 2 (m * n) once) (transposed (2 * n) m s)
      (transposed_length 2 (m * n) once ∙ omega (arith, twice m n)) (transposed_length (2 * n) m s)
      (λ a r f g.
      let p : a * (2 * n) + r ≡ (a * n + r / 2) * 2 + r % 2 = omega (arith, twice a n) in
      let q : r / 2 * 2 + r % 2 ≡ r = omega arith in
      ap (λ (i : ℕ). get_or (transposed 2 (m * n) once) i 0) p ∙ pair_at a (r / 2) (r % 2) f (omega arith) (omega arith)
      ∙ ap (λ (i : ℕ). get_or s (i * m + a) 0) q ∙ sym (transposed_at (2 * n) m s a r f g))

-- ---- of 128 bytes

-- what interleaving them t times comes to: the transpose of 2 ^ t rows
abbrev pub repeated : ℕ → List ℕ → List ℕ
repeated t s = transposed (2 ^ t) (2 ^ (7 - t)) s

pub repeated_none : (s : List ℕ) → length s ≡ 128 → s ≡ repeated 0 s
repeated_none s h =
    by_rows 1 128 (lit≤ tt) s (transposed 1 128 s) h (transposed_length 1 128 s)
    (λ b a f g.
    let z : a ≡ 0 = omega arith in
    let p : b * 1 + a ≡ a * 128 + b = omega arith in
    ap (λ (i : ℕ). get_or s i 0) p ∙ sym (transposed_at 1 128 s b a f g))

pub repeated_more : (t : ℕ) (s : List ℕ) → t < 7 → transposed 2 64 (repeated t s) ≡ repeated (t + 1) s
repeated_more t s h =
    let m = 2 ^ (6 - t) in
    let n = 2 ^ t in
    let e : suc (6 - t) ≡ 7 - t = omega arith in
    let w : 2 * m ≡ 2 ^ (7 - t) = sym (pow-succ' 2 (6 - t)) ∙ ap (λ (i : ℕ). 2 ^ i) e in
    let f : 6 - t + t ≡ 6 = omega arith in
    let l : m * n ≡ 64 = sym (pow-add 2 (6 - t) t) ∙ ap (λ (i : ℕ). 2 ^ i) f in
    let u : 2 * n ≡ 2 ^ (t + 1) = sym (pow-succ' 2 t) ∙ ap (λ (i : ℕ). 2 ^ i) (sym (add-one t)) in
    let d : 6 - t ≡ 7 - (t + 1) = omega arith in
    ap₂ {C = List ℕ} (λ x y. transposed 2 x (transposed n y s)) (sym l) (sym w)
    ∙ doubled n m s (pow_pos t)
    ∙ ap₂ {C = List ℕ} (λ x y. transposed x y s) u (ap (λ (i : ℕ). 2 ^ i) d)
