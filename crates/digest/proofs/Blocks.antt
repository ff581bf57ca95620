-- Laws of whole blocks and of what is left behind them, for any length of block and any compression function.
use mathlib.Core.Path.{◌≡◌, refl, ap, sym, ◌∙◌}
use mathlib.Core.List.{List, [], ◌++◌}
use Prim.Native.Nat.{ℕ, zero, suc, ◌+◌, ◌-◌, ◌*◌, ◌/◌, ◌%◌, ◌≤◌, ◌<◌}
use native.Mathlib.Nat.{add-zero, add-suc, add-mul, mul-add-div_right, div-mul-le_self, mod-eq-sub-div-mul, div-eq_of_lt, div_self, zero-mul, one-mul, suc-mul}
use native.Mathlib.Numerals.{add-one}
use native.Mathlib.Omega.{arith}
use lib.ListN.{length, take, drop, length-append, length-drop, drop_of_length-le}
use lib.Seq.{drop-drop, drop-append-le, take-append-le, take_all}
use Rattle.digest.specs.Blocks.{iterated, compressed, rest}

module _ {P : Type 0} (B : ℕ) (f : P → List ℕ → P) where
  -- n blocks and then m more
  iterated_more : (n m : ℕ) (p : P) (s : List ℕ) → iterated B f (n + m) p s ≡ iterated B f m (iterated B f n p s) (drop (n * B) s)
  iterated_more n zero p s = rw add-zero
  iterated_more n (suc m) p s =
      let e : (n + m) * B ≡ n * B + m * B = add-mul n m B in
      rw (add-suc, iterated_more n m p s, drop-drop (m * B) (n * B) s, e)

  -- n blocks see no further than n * B bytes
  iterated_front : (n : ℕ) (p : P) (s t : List ℕ) → n * B ≤ length s → iterated B f n p (s ++ t) ≡ iterated B f n p s
  iterated_front zero p s t h = refl
  iterated_front (suc n) p s t h =
      let e : suc n * B ≡ n * B + B = suc-mul n B in
      let h₁ : n * B ≤ length s = omega arith in
      let h₂ : B ≤ length (drop (n * B) s) = simp length-drop (omega arith) in
      rw (iterated_front n p s t h₁, drop-append-le (n * B) s t h₁, take-append-le B (drop (n * B) s) t h₂)

module _ (B : ℕ) (pos : 0 < B) where
  pub length_rest : (s : List ℕ) → length (rest B s) ≡ length s % B
  length_rest s = length-drop _ s ∙ sym (mod-eq-sub-div-mul (length s) B)

  count : (s t : List ℕ) → length (s ++ t) / B ≡ length s / B + length (rest B s ++ t) / B
  count s t =
      let h = div-mul-le_self (length s) B in
      let e : length (s ++ t) ≡ length s / B * B + length (rest B s ++ t) = simp (length-append, length-drop) (omega arith) in
      rw e (mul-add-div_right pos _ _)

  -- the rest of s and then t leave what s and t leave
  pub rest_rest : (s t : List ℕ) → rest B (rest B s ++ t) ≡ rest B (s ++ t)
  rest_rest s t =
      let n = length s / B in
      let m = length (rest B s ++ t) / B in
      let e : (n + m) * B ≡ n * B + m * B = add-mul n m B in
      sym (ap (λ (j : ℕ). drop (j * B) (s ++ t)) (count s t) ∙ ap (λ (j : ℕ). drop j (s ++ t)) e
      ∙ sym (drop-drop (m * B) (n * B) (s ++ t)) ∙ ap (drop (m * B)) (drop-append-le (n * B) s t (div-mul-le_self (length s) B)))

  pub rest_short : (s : List ℕ) → length s < B → rest B s ≡ s
  rest_short s h = rw (div-eq_of_lt h, zero-mul)

  pub rest_one : (s : List ℕ) → length s ≡ B → rest B s ≡ []
  rest_one s e =
      let n : length s / B ≡ 1 = ap (λ (x : ℕ). x / B) e ∙ div_self pos in
      let l : length s ≤ B = omega arith in
      rw (n, one-mul B) (drop_of_length-le s l)

  module _ {P : Type 0} (f : P → List ℕ → P) (p : P) where
    -- the blocks of s, and then those of its rest and t, are those of s and t
    pub compressed_twice : (s t : List ℕ) → compressed B f (compressed B f p s) (rest B s ++ t) ≡ compressed B f p (s ++ t)
    compressed_twice s t =
        let n = length s / B in
        let m = length (rest B s ++ t) / B in
        let h = div-mul-le_self (length s) B in
        sym (ap (λ (j : ℕ). iterated B f j p (s ++ t)) (count s t) ∙ iterated_more B f n m p (s ++ t)
        ∙ rw (iterated_front B f n p s t h, drop-append-le (n * B) s t h))

    pub compressed_short : (s : List ℕ) → length s < B → compressed B f p s ≡ p
    compressed_short s h = rw (div-eq_of_lt h)

    pub compressed_one : (s : List ℕ) → length s ≡ B → compressed B f p s ≡ f p s
    compressed_one s e =
        let n : length s / B ≡ 1 = ap (λ (x : ℕ). x / B) e ∙ div_self pos in
        let l : length s ≤ B = omega arith in
        rw n (rw (zero-mul B, take_all B s l))

    -- a block and what is behind it
    compressed_front : (m t : List ℕ) → length m ≡ B → compressed B f (f p m) t ≡ compressed B f p (m ++ t)
    compressed_front m t e =
        ap (λ (q : P). compressed B f q t) (sym (compressed_one m e))
        ∙ ap (λ (r : List ℕ). compressed B f (compressed B f p m) (r ++ t)) (sym (rest_one m e)) ∙ compressed_twice m t

    -- a turn of the loop over blocks: s is the block m and then t
    pub compressed_turn : {q : P} (s m t : List ℕ) → s ≡ m ++ t → length m ≡ B → q ≡ f p m → compressed B f q t ≡ compressed B f p s
    compressed_turn s m t e l h = ap (λ (q : P). compressed B f q t) h ∙ compressed_front m t l ∙ ap (compressed B f p) (sym e)
