-- What the code sums, combines and balances, place by place, comes to the definitions over a list of places.
use mathlib.Core.Path.{◌≡◌, refl, sym, ap, ap₂, ◌∙◌}
use mathlib.Core.List.{List, [], ◌∷◌, map}
use Prim.Native.Nat.{ℕ, ◌+◌, ◌-◌, ◌%◌, ◌^◌, ◌<◌}
use native.Mathlib.Nat.{add-mod-mod}
use native.Mathlib.Omega.{arith}
use lib.Bits.{bit_xor, xor_zero_r, xor_self}
use lib.ListN.{length, get_or, replicate}
use Rattle.std.specs.List.{All}
use Rattle.std.proofs.lemmas.List.Elements.{All-get_or}
use Rattle.std.proofs.lemmas.List.{get_or_default}
use Rattle.memory.proofs.Lists.{word, spread}
use Rattle.memory.proofs.Eight.{eight}
use Rattle.word.specs.Word.{plus, minus, times, inverse, rotl}
use Rattle.quasigroup.specs.Product.{pick, both, first, sum, xor, rotations}
use Rattle.quasigroup.specs.Division.{left_unxors, unrotated_sums}
use Rattle.tables.specs.Places.{unxor_places}
use Rattle.halves.specs.Balance.{balance, two_fifths}
use Rattle.halves.proofs.Balance.{balance_one, balance_plus, balance_minus, sum_cons, sum_two}

five_wrapped : (w a b c d e k : ℕ) → plus w a (plus w b (plus w c (plus w d (plus w e k)))) ≡ sum w k (a ∷ b ∷ c ∷ d ∷ e ∷ [])
unfolding sum plus
five_wrapped w a b c d e k =
    let e : a + (b + (c + (d + (e + k)))) ≡ a + (b + (c + (d + (e + 0)))) + k = omega arith in
    simp add-mod-mod (ap (λ n. n % 2 ^ w) e)

-- The word that code reads by number i of p, whatever it stands for where there is none.
module _ (v p : List ℕ) (l : length v ≡ 8) (below : All (λ n. n < 8) p) where
  read : (i d : ℕ) → i < length p → get_or v (get_or p i 0) d ≡ word v p i
  read i d h = get_or_default v (get_or p i 0) d 0 (rw l (All-get_or (λ n. n < 8) p i 0 h below))

  -- five sums that wrap: the sum of five words and a constant
  pub five_summed : (w k a b c d e : ℕ) {last two three four all : ℕ} → length p ≡ 5
      → last ≡ plus w (get_or v (get_or p 4 0) e) k → two ≡ plus w (get_or v (get_or p 3 0) d) last
      → three ≡ plus w (get_or v (get_or p 2 0) c) two → four ≡ plus w (get_or v (get_or p 1 0) b) three
      → all ≡ plus w (get_or v (get_or p 0 0) a) four → all ≡ sum w k (pick p v)
  five_summed w k a b c d e n q4 q3 q2 q1 q0 =
      q0
      ∙ ap₂ (plus w) (read 0 a (omega arith))
      (q1 ∙ ap₂ (plus w) (read 1 b (omega arith))
      (q2 ∙ ap₂ (plus w) (read 2 c (omega arith))
      (q3 ∙ ap₂ (plus w) (read 3 d (omega arith)) (q4 ∙ ap (λ x. plus w x k) (read 4 e (omega arith))))))
      ∙ five_wrapped w (word v p 0) (word v p 1) (word v p 2) (word v p 3) (word v p 4) k
      ∙ ap (λ (q : List ℕ). sum w k (pick q v)) (spread 5 p n)

  pub three_combined : (a b c : ℕ) {y x : ℕ} → length p ≡ 3 → y ≡ bit_xor (get_or v (get_or p 1 0) b) (get_or v (get_or p 2 0) c)
      → x ≡ bit_xor (get_or v (get_or p 0 0) a) y → x ≡ xor (pick p v)
  unfolding xor
  three_combined a b c n q r =
      r
      ∙ ap₂ bit_xor (read 0 a (omega arith))
      (q ∙ ap₂ bit_xor (read 1 b (omega arith)) (read 2 c (omega arith) ∙ sym (xor_zero_r (word v p 2))))
      ∙ ap (λ (q : List ℕ). xor (pick q v)) (spread 3 p n)

  pub five_combined : (a b c d e : ℕ) {x y t r : ℕ} → length p ≡ 5 → t ≡ bit_xor (get_or v (get_or p 3 0) d) (get_or v (get_or p 4 0) e)
      → y ≡ bit_xor (get_or v (get_or p 2 0) c) t → x ≡ bit_xor (get_or v (get_or p 1 0) b) y → r ≡ bit_xor (get_or v (get_or p 0 0) a) x → r ≡ xor (pick p v)
  unfolding xor
  five_combined a b c d e n q3 q2 q1 q0 =
      q0
      ∙ ap₂ bit_xor (read 0 a (omega arith))
      (q1 ∙ ap₂ bit_xor (read 1 b (omega arith))
      (q2 ∙ ap₂ bit_xor (read 2 c (omega arith))
      (q3 ∙ ap₂ bit_xor (read 3 d (omega arith)) (read 4 e (omega arith) ∙ sym (xor_zero_r (word v p 4))))))
      ∙ ap (λ (q : List ℕ). xor (pick q v)) (spread 5 p n)

-- rotated sum i, by row i of the tables
abbrev rotated_sum : ℕ → ℕ → List ℕ → List (List ℕ) → List ℕ → ℕ → ℕ
rotated_sum w k rs P v i = rotl w (get_or rs i 0) (sum w k (pick (get_or P i []) v))

-- eight sums, the constant in the first
abbrev eight_rows : ℕ → ℕ → ℕ → List (List ℕ) → List ℕ → List ℕ
eight_rows w k z P v = sum w k (pick (get_or P 0 []) v) ∷ map (λ i. sum w z (pick (get_or P i []) v)) (1 ∷ 2 ∷ 3 ∷ 4 ∷ 5 ∷ 6 ∷ 7 ∷ [])

-- Eight rotated sums, by the code's amounts and constants. Each is held against its own row, so that a wrong word number or constant is seen by itself.
pub eight_sums : (w c : ℕ) (rs : List ℕ) (P : List (List ℕ)) (v : List ℕ) {r : List ℕ} {k z t0 t1 t2 t3 t4 t5 t6 t7 : ℕ} → length r ≡ 8 → r ≡ rs → k ≡ c → z ≡ 0
    → t0 ≡ rotated_sum w k r P v 0 → t1 ≡ rotated_sum w z r P v 1 → t2 ≡ rotated_sum w z r P v 2 → t3 ≡ rotated_sum w z r P v 3
    → t4 ≡ rotated_sum w z r P v 4 → t5 ≡ rotated_sum w z r P v 5 → t6 ≡ rotated_sum w z r P v 6 → t7 ≡ rotated_sum w z r P v 7
    → ◌≡◌ {A = List ℕ} (t0 ∷ t1 ∷ t2 ∷ t3 ∷ t4 ∷ t5 ∷ t6 ∷ t7 ∷ []) (rotations w rs (eight_rows w c 0 P v))
eight_sums w c rs P v {r} {k} {z} l er ek ez e0 e1 e2 e3 e4 e5 e6 e7 =
    eight e0 e1 e2 e3 e4 e5 e6 e7 ∙ ap (λ (q : List ℕ). rotations w q (eight_rows w k z P v)) (spread 8 r l ∙ er)
    ∙ ap (λ n. rotations w rs (eight_rows w n z P v)) ek ∙ ap (λ n. rotations w rs (eight_rows w c n P v)) ez

-- a combination rotated back, less a constant, by row i of the tables
abbrev unrotated : ℕ → ℕ → List ℕ → List (List ℕ) → List ℕ → ℕ → ℕ
unrotated w k rs P z i = minus w (rotl w (w - get_or rs i 0) (xor (pick (get_or P i []) z))) k

-- eight combinations
abbrev eight_xors : List (List ℕ) → List ℕ → List ℕ
eight_xors P z = map (λ i. xor (pick (get_or P i []) z)) (0 ∷ 1 ∷ 2 ∷ 3 ∷ 4 ∷ 5 ∷ 6 ∷ 7 ∷ [])

-- the same for the rotations taken back
pub eight_unrotated : (w c : ℕ) (rs : List ℕ) (P : List (List ℕ)) (z : List ℕ) {r : List ℕ} {k n t0 t1 t2 t3 t4 t5 t6 t7 : ℕ} → length r ≡ 8 → r ≡ rs → k ≡ c → n ≡ 0
    → t0 ≡ unrotated w k r P z 0 → t1 ≡ unrotated w n r P z 1 → t2 ≡ unrotated w n r P z 2 → t3 ≡ unrotated w n r P z 3
    → t4 ≡ unrotated w n r P z 4 → t5 ≡ unrotated w n r P z 5 → t6 ≡ unrotated w n r P z 6 → t7 ≡ unrotated w n r P z 7
    → ◌≡◌ {A = List ℕ} (t0 ∷ t1 ∷ t2 ∷ t3 ∷ t4 ∷ t5 ∷ t6 ∷ t7 ∷ []) (both (minus w) (rotations w (map (λ a. w - a) rs) (eight_xors P z)) (first c))
eight_unrotated w c rs P z {r} {k} {n} l er ek en e0 e1 e2 e3 e4 e5 e6 e7 =
    eight e0 e1 e2 e3 e4 e5 e6 e7
    ∙ ap (λ (q : List ℕ). both (minus w) (rotations w (map (λ a. w - a) q) (eight_xors P z)) (k ∷ replicate 7 n)) (spread 8 r l ∙ er)
    ∙ ap₂ (λ x y. both (minus w) (rotations w (map (λ a. w - a) rs) (eight_xors P z)) (x ∷ replicate 7 y)) ek en

-- eight words, read where they stand
pub eight_read : (v : List ℕ) (a b c d e f g h : ℕ) → length v ≡ 8
    → ◌≡◌ {A = List ℕ} (get_or v 0 a ∷ get_or v 1 b ∷ get_or v 2 c ∷ get_or v 3 d ∷ get_or v 4 e ∷ get_or v 5 f ∷ get_or v 6 g ∷ get_or v 7 h ∷ []) v
eight_read v a b c d e f g h l =
    eight (at 0 a (omega arith)) (at 1 b (omega arith)) (at 2 c (omega arith)) (at 3 d (omega arith)) (at 4 e (omega arith)) (at 5 f (omega arith)) (at 6 g (omega arith)) (at 7 h (omega arith))
    ∙ spread 8 v l
  where
    at : (i d : ℕ) → i < 8 → get_or v i d ≡ get_or v i 0
    at i d h = get_or_default v i d 0 (rw l h)

-- a word that is combined twice is gone
cancelled : (a b c d : ℕ) → xor (a ∷ b ∷ c ∷ d ∷ d ∷ []) ≡ xor (a ∷ b ∷ c ∷ [])
unfolding xor
cancelled a b c d = ap (λ n. bit_xor a (bit_xor b (bit_xor c n))) (ap (bit_xor d) (xor_zero_r d) ∙ xor_self d)

-- so the places that fill up the code's table change nothing
pub unfilled : (w c : ℕ) (rs z : List ℕ) → unrotated_sums w c rs unxor_places z ≡ unrotated_sums w c rs left_unxors z
unfilled w c rs z =
    ap (λ (l : List ℕ). both (minus w) (rotations w (map (λ r. w - r) rs) l) (first c))
    (eight (cancelled _ _ _ _) refl refl refl (cancelled _ _ _ _) (cancelled _ _ _ _) (cancelled _ _ _ _) refl)

-- two words added and five taken away
pub balanced : (w u : ℕ) (p n s : List ℕ) (a b c d e f g : ℕ) {x y less t rest z all : ℕ} → length s ≡ 8 → All (λ i. i < 8) p → All (λ i. i < 8) n → length p ≡ 2 → length n ≡ 5
    → x ≡ minus w u (get_or s (get_or n 4 0) e) → y ≡ minus w x (get_or s (get_or n 3 0) d) → less ≡ minus w y (get_or s (get_or n 2 0) c)
    → t ≡ minus w less (get_or s (get_or n 1 0) b) → rest ≡ minus w t (get_or s (get_or n 0 0) a)
    → z ≡ plus w rest (get_or s (get_or p 1 0) g) → all ≡ plus w z (get_or s (get_or p 0 0) f) → all ≡ balance w u (pick p s) (pick n s)
balanced w u p n s a b c d e f g l hp hn k m q4 q3 q2 q1 q0 r1 r0 =
    let away : (i x : ℕ) → i < length n → get_or s (get_or n i 0) x ≡ word s n i = read s n l hn in
    let added : (i x : ℕ) → i < length p → get_or s (get_or p i 0) x ≡ word s p i = read s p l hp in
    r0
    ∙ ap₂ (plus w)
    (r1 ∙ ap₂ (plus w)
    (q0 ∙ ap₂ (minus w)
    (q1 ∙ ap₂ (minus w)
    (q2 ∙ ap₂ (minus w) (q3 ∙ ap₂ (minus w) (q4 ∙ ap (minus w u) (away 4 e (omega arith)) ∙ sym (balance_one w u _)) (away 3 d (omega arith))) (away 2 c (omega arith)))
    (away 1 b (omega arith)))
    (away 0 a (omega arith)))
    (added 1 g (omega arith)))
    (added 0 f (omega arith))
    ∙ sym (simp (balance_plus, balance_minus)) ∙ ap₂ (λ (q r : List ℕ). balance w u (pick q s) (pick r s)) (spread 2 p k) (spread 5 n m)

-- none added and three taken away
pub less_three : (w u : ℕ) (n s : List ℕ) (a b c : ℕ) {x y z : ℕ} → length s ≡ 8 → All (λ i. i < 8) n → length n ≡ 3
    → x ≡ minus w u (get_or s (get_or n 2 0) c) → y ≡ minus w x (get_or s (get_or n 1 0) b) → z ≡ minus w y (get_or s (get_or n 0 0) a)
    → z ≡ balance w u [] (pick n s)
less_three w u n s a b c l h m q2 q1 q0 =
    let away : (i x : ℕ) → i < length n → get_or s (get_or n i 0) x ≡ word s n i = read s n l h in
    q0
    ∙ ap₂ (minus w)
    (q1 ∙ ap₂ (minus w) (q2 ∙ ap (minus w u) (away 2 c (omega arith)) ∙ sym (balance_one w u _)) (away 1 b (omega arith)) ∙ sym (balance_minus w u _ [] _))
    (away 0 a (omega arith))
    ∙ sym (balance_minus w u _ [] _) ∙ ap (λ (r : List ℕ). balance w u [] (pick r s)) (spread 3 n m)

-- the sum of eight words, as the code nests it
pub eight_summed : (w : ℕ) (s : List ℕ) (a b c d e f g h : ℕ) {x5 x4 four x2 x1 three all : ℕ} → length s ≡ 8
    → x5 ≡ plus w (get_or s 6 g) (get_or s 7 h) → x4 ≡ plus w (get_or s 5 f) x5 → four ≡ plus w (get_or s 4 e) x4
    → x2 ≡ plus w (get_or s 3 d) four → x1 ≡ plus w (get_or s 2 c) x2 → three ≡ plus w (get_or s 1 b) x1 → all ≡ plus w (get_or s 0 a) three → all ≡ sum w 0 s
eight_summed w s a b c d e f g h l p6 p5 p4 p3 p2 p1 p0 =
    p0 ∙ ap (plus w _) (p1 ∙ ap (plus w _) (p2 ∙ ap (plus w _) (p3 ∙ ap (plus w _) (p4 ∙ ap (plus w _) (p5 ∙ ap (plus w _) (p6 ∙ sym (sum_two w _ _)))))))
    ∙ sym (simp sum_cons) ∙ ap (sum w 0) (eight_read s a b c d e f g h l)

pub two_fifths_is : (w : ℕ) (s : List ℕ) {i t z x : ℕ} → i ≡ inverse w 5 → t ≡ sum w 0 s → z ≡ times w i t → x ≡ plus w z z → x ≡ two_fifths w s
unfolding two_fifths
two_fifths_is w s a b c d = cc
