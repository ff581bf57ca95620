-- What is made of each record, one after the other.
use mathlib.Core.Path.{◌≡◌, sym, ap, ap₂, ◌∙◌}
use mathlib.Core.List.{List, ◌++◌, append_assoc, append-nil}
use Prim.Native.Nat.{ℕ, zero, suc, ◌+◌, ◌*◌, ◌≤◌, ◌<◌}
use native.Mathlib.Nat.{zero-mul, suc-mul, zero-add, suc-add}
use native.Mathlib.Omega.{arith}
use lib.ListN.{length, get_or, take, drop, length-append, length-drop, get_or-append}
use lib.Seq.{length-take-le, take_at, drop_at, take-add, drop-drop, drop-length, get_or-append-add, take-append-le, drop-append-le}
use Rattle.shuffle.specs.Shuffle.{each_record}

-- f makes m bytes of a record
abbrev pub Keeps : (List ℕ → List ℕ) → ℕ → Type 0
Keeps f m = (r : List ℕ) → length (f r) ≡ m

module _ (f : List ℕ → List ℕ) (m : ℕ) where
  -- one record more
  pub each_more : (n : ℕ) (s : List ℕ) → each_record f m (suc n) s ≡ each_record f m n s ++ f (take m (drop (n * m) s))
  each_more zero s = append-nil (f (take m s)) ∙ ap (λ (i : ℕ). f (take m (drop i s))) (sym (zero-mul m))
  each_more (suc n) s =
      let e : m + n * m ≡ suc n * m = omega (arith, suc-mul n m) in
      ap (λ (l : List ℕ). f (take m s) ++ l) (each_more n (drop m s))
      ∙ sym (append_assoc (f (take m s)) (each_record f m n (drop m s)) (f (take m (drop (n * m) (drop m s)))))
      ∙ ap (λ (l : List ℕ). f (take m s) ++ each_record f m n (drop m s) ++ f (take m l)) (drop-drop (n * m) m s ∙ ap (λ (i : ℕ). drop i s) e)

  -- the records of a, and then those of b
  pub each_apart : (n k : ℕ) (a b : List ℕ) → length a ≡ n * m → each_record f m (n + k) (a ++ b) ≡ each_record f m n a ++ each_record f m k b
  each_apart zero k a b e =
      let z : 0 ≡ length a = omega (arith, e, zero-mul m) in
      let none : a ≡ drop (length a) a = ap (λ (j : ℕ). drop j a) z in
      ap (λ (j : ℕ). each_record f m j (a ++ b)) (zero-add k) ∙ ap (λ (l : List ℕ). each_record f m k (l ++ b)) (none ∙ drop-length a)
  each_apart (suc n) k a b e =
      let g : m ≤ length a = omega (arith, suc-mul n m) in
      let l : length (drop m a) ≡ n * m = length-drop m a ∙ omega (arith, suc-mul n m) in
      ap (λ (j : ℕ). each_record f m j (a ++ b)) (suc-add n k)
      ∙ ap₂ {C = List ℕ} (λ x y. f x ++ each_record f m (n + k) y) (take-append-le m a b g) (drop-append-le m a b g)
      ∙ ap (λ (t : List ℕ). f (take m a) ++ t) (each_apart n k (drop m a) b l)
      ∙ sym (append_assoc (f (take m a)) (each_record f m n (drop m a)) (each_record f m k b))

  module _ (keeps : Keeps f m) where
    pub each_length : (n : ℕ) (s : List ℕ) → length (each_record f m n s) ≡ n * m
    each_length zero s = sym (zero-mul m)
    each_length (suc n) s =
        length-append (f (take m s)) (each_record f m n (drop m s)) ∙ omega (arith, keeps (take m s), each_length n (drop m s), suc-mul n m)

    -- byte p of record r
    pub each_at : (n : ℕ) (s : List ℕ) (r p : ℕ) → r < n → p < m → get_or (each_record f m n s) (r * m + p) 0 ≡ get_or (f (take m (drop (r * m) s))) p 0
    each_at zero s r p g b = absurd (omega arith)
    each_at (suc n) s zero p g b =
        let l = f (take m s) in
        let q = each_record f m n (drop m s) in
        let z : 0 * m ≡ 0 = zero-mul m in
        let e : 0 * m + p ≡ p = omega arith in
        ap (λ (i : ℕ). get_or (l ++ q) i 0) e ∙ get_or-append l q 0 p (omega (arith, keeps (take m s)))
        ∙ ap (λ (i : ℕ). get_or (f (take m (drop i s))) p 0) (sym z)
    each_at (suc n) s (suc r) p g b =
        let l = f (take m s) in
        let q = each_record f m n (drop m s) in
        let e : suc r * m + p ≡ length l + (r * m + p) = omega (arith, suc-mul r m, keeps (take m s)) in
        let d : m + r * m ≡ suc r * m = omega (arith, suc-mul r m) in
        ap (λ (i : ℕ). get_or (l ++ q) i 0) e ∙ get_or-append-add l q (r * m + p) 0 ∙ each_at n (drop m s) r p (omega arith) b
        ∙ ap (λ (t : List ℕ). get_or (f (take m t)) p 0) (drop-drop (r * m) m s ∙ ap (λ (i : ℕ). drop i s) d)

-- g takes back what f makes
module _ (f g : List ℕ → List ℕ) (m : ℕ) (keeps : Keeps f m) (back : (r : List ℕ) → length r ≡ m → g (f r) ≡ r) where
  pub each_back : (n : ℕ) (s : List ℕ) → n * m ≤ length s → each_record g m n (each_record f m n s) ≡ take (n * m) s
  each_back zero s h = ap (λ (i : ℕ). take i s) (sym (zero-mul m))
  each_back (suc n) s h =
      let l = f (take m s) in
      let q = each_record f m n (drop m s) in
      let k = keeps (take m s) in
      let e : m + n * m ≡ suc n * m = omega (arith, suc-mul n m) in
      let rest : n * m ≤ length (drop m s) = omega (arith, suc-mul n m, length-drop m s) in
      ap₂ {C = List ℕ} (λ x y. g x ++ each_record g m n y) (take_at l q m k) (drop_at l q m k)
      ∙ ap₂ {C = List ℕ} (λ x y. x ++ y) (back (take m s) (length-take-le m s (omega (arith, suc-mul n m)))) (each_back n (drop m s) rest)
      ∙ sym (take-add m (n * m) s) ∙ ap (λ (i : ℕ). take i s) e
