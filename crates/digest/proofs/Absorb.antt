-- Taking bytes in: a the pending bytes, s those that come. The code's three cases, for any length of block.
use mathlib.Core.Path.{◌≡◌, ap, sym, ◌∙◌}
use mathlib.Core.List.{List, [], ◌∷◌, ◌++◌, append-nil, append_assoc}
use Prim.Native.Nat.{ℕ, ◌+◌, ◌-◌, ◌≤◌, ◌<◌}
use native.Mathlib.Omega.{arith}
use lib.ListN.{length, take, drop, replicate, length-append, take-append-drop}
use lib.Seq.{length-take-le}
use Rattle.digest.specs.Blocks.{compressed, rest, filled}
use Rattle.digest.proofs.Blocks.{rest_rest, compressed_twice, rest_short, rest_one, compressed_short, compressed_one}
use Rattle.memory.proofs.Lists.{to_end}

module _ {P : Type 0} (B : ℕ) (pos : 0 < B) (f : P → List ℕ → P) (p : P) (a s : List ℕ) where
  -- nothing is pending
  pub absorb_none : {r : P} {w : List ℕ} → length a ≡ 0 → (r ≡ compressed B f p s) × (w ≡ filled B (rest B s))
      → (r ≡ compressed B f p (a ++ s)) × (w ≡ filled B (rest B (a ++ s)))
  absorb_none {r} {w} h e = none a h
    where
      none : (l : List ℕ) → length l ≡ 0 → (r ≡ compressed B f p (l ++ s)) × (w ≡ filled B (rest B (l ++ s)))
      none [] h = e
      none (x ∷ l) h = absurd (omega arith)

  -- too few for a block
  pub absorb_few : length a + length s < B → (p ≡ compressed B f p (a ++ s)) × (filled B (a ++ s) ≡ filled B (rest B (a ++ s)))
  absorb_few h =
      let l : length (a ++ s) < B = simp length-append (omega arith) in
      (sym (compressed_short B pos f p (a ++ s) l), ap (filled B) (sym (rest_short B pos (a ++ s) l)))

  -- the first n bytes of s fill a block, b
  filling : (n : ℕ) {b : List ℕ} {q r : P} {w : List ℕ} → length a + n ≡ B → n ≤ length s → b ≡ filled B (a ++ take n s) → q ≡ f p b
      → r ≡ compressed B f q (drop n s) → w ≡ filled B (rest B (drop n s))
      → (r ≡ compressed B f p (a ++ s)) × (w ≡ filled B (rest B (a ++ s)))
  filling n {b} {q} {r} {w} h g eb eq er ew =
      let c : List ℕ = a ++ take n s in
      let lt : length (take n s) ≡ n = length-take-le n s g in
      let lc : length c ≡ B = length-append a (take n s) ∙ omega arith in
      let z : B - length c ≡ 0 = omega arith in
      let eb' : b ≡ c = eb ∙ ap (λ (j : ℕ). c ++ replicate j 0) z ∙ append-nil c in
      let o : rest B c ≡ [] = rest_one B pos c lc in
      let j : c ++ drop n s ≡ a ++ s = append_assoc a (take n s) (drop n s) ∙ ap (λ (l : List ℕ). a ++ l) (take-append-drop n s) in
      let q' : q ≡ compressed B f p c = eq ∙ ap (f p) eb' ∙ sym (compressed_one B pos f p c lc) in (
        er ∙ ap (λ (x : P). compressed B f x (drop n s)) q' ∙ ap (λ (l : List ℕ). compressed B f (compressed B f p c) (l ++ drop n s)) (sym o)
            ∙ compressed_twice B pos f p c (drop n s) ∙ ap (compressed B f p) j,
        ew ∙ ap (λ (l : List ℕ). filled B (rest B (l ++ drop n s))) (sym o) ∙ ap (filled B) (rest_rest B pos c (drop n s) ∙ ap (rest B) j),
      )

  -- as code has it, with the part of s behind those bytes
  pub absorb_many : {b : List ℕ} {q r : P} {w : List ℕ} → length a < B → B - length a ≤ length s → b ≡ filled B (a ++ take (B - length a) s) → q ≡ f p b
      → (r ≡ compressed B f q (take (length s - (B - length a)) (drop (B - length a) s)))
      × (w ≡ filled B (rest B (take (length s - (B - length a)) (drop (B - length a) s))))
      → (r ≡ compressed B f p (a ++ s)) × (w ≡ filled B (rest B (a ++ s)))
  absorb_many {b} {q} {r} {w} h g eb eq e =
      let t = to_end s (B - length a) g in
      filling (B - length a) (omega arith) g eb eq (e.0 ∙ ap (compressed B f q) t) (e.1 ∙ ap (λ (x : List ℕ). filled B (rest B x)) t)
