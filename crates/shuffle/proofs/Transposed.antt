-- A matrix of bytes and its transpose, place by place.
use mathlib.Core.Path.{◌≡◌, refl, sym, ap, subst, ◌∙◌}
use mathlib.Core.List.{List, ◌++◌}
use Prim.Native.Nat.{ℕ, zero, suc, ◌+◌, ◌*◌, ◌/◌, ◌%◌, ◌<◌}
use native.Mathlib.Nat.{zero-mul, suc-mul, mod-lt, div-add-mod', div-lt_iff_lt-mul}
use native.Mathlib.Omega.{arith}
use lib.ListN.{length, get_or, length-append, get_or-append}
use lib.Seq.{get_or-append-add, ext_get_or}
use Rattle.shuffle.specs.Transposed.{column, columns, transposed}

column_length : (m n : ℕ) (s : List ℕ) (i : ℕ) → length (column m n s i) ≡ n
column_length m zero s i = refl
column_length m (suc n) s i = ap suc (column_length m n s (i + m))

column_at : (m n : ℕ) (s : List ℕ) (i b : ℕ) → b < n → get_or (column m n s i) b 0 ≡ get_or s (b * m + i) 0
column_at m zero s i b h = absurd (omega arith)
column_at m (suc n) s i zero h = ap (λ (j : ℕ). get_or s j 0) (omega (arith, zero-mul m))
column_at m (suc n) s i (suc b) h = column_at m n s (i + m) b (omega arith) ∙ ap (λ (j : ℕ). get_or s j 0) (omega (arith, suc-mul b m))

columns_length : (m n c : ℕ) (s : List ℕ) (i : ℕ) → length (columns m n c s i) ≡ c * n
columns_length m n zero s i = sym (zero-mul n)
columns_length m n (suc c) s i =
    length-append (column m n s i) (columns m n c s (i + 1))
    ∙ omega (arith, column_length m n s i, columns_length m n c s (i + 1), suc-mul c n)

columns_at : (m n c : ℕ) (s : List ℕ) (i a b : ℕ) → a < c → b < n → get_or (columns m n c s i) (a * n + b) 0 ≡ get_or s (b * m + (i + a)) 0
columns_at m n zero s i a b h g = absurd (omega arith)
columns_at m n (suc c) s i zero b h g =
    let l = column m n s i in
    let r = columns m n c s (i + 1) in
    let z : 0 * n + b ≡ b = omega (arith, zero-mul n) in
    let e : i ≡ i + 0 = omega arith in
    ap (λ (j : ℕ). get_or (l ++ r) j 0) z ∙ get_or-append l r 0 b (omega (arith, column_length m n s i)) ∙ column_at m n s i b g
    ∙ ap (λ (j : ℕ). get_or s (b * m + j) 0) e
columns_at m n (suc c) s i (suc a) b h g =
    let l = column m n s i in
    let r = columns m n c s (i + 1) in
    let z : suc a * n + b ≡ length l + (a * n + b) = omega (arith, suc-mul a n, column_length m n s i) in
    let e : i + 1 + a ≡ i + suc a = omega arith in
    ap (λ (j : ℕ). get_or (l ++ r) j 0) z ∙ get_or-append-add l r (a * n + b) 0 ∙ columns_at m n c s (i + 1) a b (omega arith) g
    ∙ ap (λ (j : ℕ). get_or s (b * m + j) 0) e

module _ (n m : ℕ) (s : List ℕ) where
  pub transposed_length : length (transposed n m s) ≡ m * n
  unfolding transposed
  transposed_length = columns_length m n m s 0

  pub transposed_at : (a b : ℕ) → a < m → b < n → get_or (transposed n m s) (a * n + b) 0 ≡ get_or s (b * m + a) 0
  unfolding transposed
  transposed_at a b h g = columns_at m n m s 0 a b h g ∙ ap (λ (j : ℕ). get_or s (b * m + j) 0) (omega arith)

-- two matrices of n rows of m bytes are the same if each byte of each row is
module _ (m n : ℕ) (positive : 0 < m) (l s : List ℕ) (e : length l ≡ n * m) (f : length s ≡ n * m) where
  row_below : (p : ℕ) → p < length l → p / m < n
  row_below p h = (div-lt_iff_lt-mul positive).1 (omega (arith, h, e))

  pub by_rows : ((b a : ℕ) → b < n → a < m → get_or l (b * m + a) 0 ≡ get_or s (b * m + a) 0) → l ≡ s
  by_rows same =
      ext_get_or 0 l s (e ∙ sym f)
      (λ p h. subst (λ (q : ℕ). get_or l q 0 ≡ get_or s q 0) (div-add-mod' p m) (same (p / m) (p % m) (row_below p h) (mod-lt p positive)))

-- the transpose of the transpose
pub transposed_twice : (n m : ℕ) (s : List ℕ) → 0 < m → length s ≡ n * m → transposed m n (transposed n m s) ≡ s
transposed_twice n m s positive e =
    by_rows m n positive (transposed m n (transposed n m s)) s (transposed_length m n (transposed n m s)) e
    (λ b a h g. transposed_at m n (transposed n m s) b a h g ∙ transposed_at n m s a b g h)
