-- The end of a padded message, built in a buffer of zeros: the code's two cases.
use mathlib.Core.Path.{◌≡◌, refl, ap, sym, ◌∙◌}
use mathlib.Core.List.{List, [], ◌∷◌, ◌++◌, append_assoc}
use Prim.Native.Nat.{ℕ, ◌+◌, ◌-◌, ◌%◌, ◌≤◌, ◌<◌}
use native.Mathlib.Nat.{mod-eq_of_lt}
use native.Mathlib.Omega.{arith}
use lib.ListN.{length, take, drop, replicate, length-append, length-replicate, replicate-append-replicate}
use lib.Seq.{take_at, sets, sets-eq}
use Rattle.memory.specs.Bytes.{bytes}
use Rattle.digest.specs.Padding.{gap, ending}
use Rattle.digest.specs.Blocks.{filled}
use Rattle.digest.proofs.Padding.{gap_near, gap_far}

-- q stored at the end of the first n bytes of a buffer of N that holds w, the byte m and zeros
module _ (N : ℕ) (w : List ℕ) (m : ℕ) (q : List ℕ) (eight : length q ≡ 8) where
  placed : (n g : ℕ) {b c : List ℕ} → g + (length w + 9) ≡ n → n ≤ N → b ≡ filled N (w ++ m ∷ []) → c ≡ sets b (n - 8) q
      → take n c ≡ w ++ m ∷ (replicate g 0 ++ q)
  placed n g {b} {c} e h eb ec =
      let x : List ℕ = (w ++ m ∷ []) ++ replicate g 0 in
      let r : ℕ = N - length (w ++ m ∷ []) - g in
      let l1 : length (w ++ m ∷ []) ≡ length w + 1 = length-append w (m ∷ []) in
      let gr : g + r ≡ N - length (w ++ m ∷ []) = omega arith in
      let z : replicate {A = ℕ} (N - length (w ++ m ∷ [])) 0 ≡ replicate g 0 ++ replicate r 0 =
      sym (replicate-append-replicate g r 0 ∙ ap (λ (j : ℕ). replicate j 0) gr) in
      let bx : b ≡ x ++ replicate r 0 = eb ∙ ap (λ (l : List ℕ). (w ++ m ∷ []) ++ l) z ∙ sym (append_assoc (w ++ m ∷ []) (replicate g 0) (replicate r 0)) in
      let lx : length x ≡ n - 8 = length-append (w ++ m ∷ []) (replicate g 0) ∙ ap (λ (j : ℕ). length (w ++ m ∷ []) + j) (length-replicate g 0) ∙ omega arith in
      let lr : length (replicate {A = ℕ} r 0) ≡ r = length-replicate r 0 in
      let lb : length b ≡ N = ap length bx ∙ length-append x (replicate r 0) ∙ omega arith in
      let t : take (n - 8) b ≡ x = ap (take (n - 8)) bx ∙ take_at x (replicate r 0) (n - 8) lx in
      let s : c ≡ (x ++ q) ++ drop (n - 8 + length q) b = ec ∙ sets-eq q b (n - 8) (omega arith) ∙ ap (λ (l : List ℕ). l ++ q ++ drop (n - 8 + length q) b) t in
      let lq : length (x ++ q) ≡ n = length-append x q ∙ omega arith in
      ap (take n) s ∙ take_at (x ++ q) _ n lq ∙ append_assoc (w ++ m ∷ []) (replicate g 0) q ∙ append_assoc w (m ∷ []) (replicate g 0 ++ q)

module _ (B N : ℕ) (w : List ℕ) (m bits : ℕ) (big : 9 ≤ B) (short : length w < B) (room : B + B ≤ N) where
  small : length w % B ≡ length w
  small = mod-eq_of_lt short

  -- in one block
  pub tail_one : {b c : List ℕ} → b ≡ filled N (w ++ m ∷ []) → length w + 9 ≤ B → c ≡ sets b (B - 8) (bytes 8 bits) → take B c ≡ w ++ ending B (length w) m bits
  tail_one is h e =
      let g = gap_near B 8 big (length w) (omega (arith, small)) in
      placed N w m (bytes 8 bits) refl B (gap B 8 (length w)) (omega (arith, small)) (omega arith) is e

  -- in two
  pub tail_two : {b c : List ℕ} → b ≡ filled N (w ++ m ∷ []) → B < length w + 9 → c ≡ sets b (B + B - 8) (bytes 8 bits)
      → take (B + B) c ≡ w ++ ending B (length w) m bits
  tail_two is h e =
      let g = gap_far B 8 big (length w) (omega (arith, small)) in
      placed N w m (bytes 8 bits) refl (B + B) (gap B 8 (length w)) (omega (arith, small)) room is e
