-- Texts stored one after the other.
use mathlib.Core.Path.{◌≡◌, ap, ap₂, sym, ◌∙◌}
use mathlib.Core.List.{List, [], ◌∷◌, ◌++◌}
use Prim.Native.Nat.{ℕ, suc, ◌+◌}
use native.Mathlib.Omega.{arith}
use lib.ListN.{length, set, length-append}
use lib.Seq.{sets}
use Rattle.text.specs.Pushed.{Pushed}

pub sets_append : (l : List ℕ) (i : ℕ) (a b : List ℕ) → sets l i (a ++ b) ≡ sets (sets l i a) (i + length a) b
sets_append l i [] b = let e : i ≡ i + 0 = omega arith in ap (λ (j : ℕ). sets l j b) e
sets_append l i (x ∷ a) b =
    let e : suc i + length a ≡ i + suc (length a) = omega arith in
    sets_append (set l i x) (suc i) a b ∙ ap (λ (j : ℕ). sets (sets (set l i x) (suc i) a) j b) e

-- one text behind another
pub then : {l m n a b : List ℕ} {i j k : ℕ} → Pushed l i a m j → Pushed m j b n k → Pushed l i (a ++ b) n k
then {l} {m} {n} {a} {b} {i} {j} {k} p q =
    let f = p.behind in
    let g = q.behind in
    record {
      stored = q.stored ∙ ap₂ {C = List ℕ} (λ t h. sets t h b) p.stored f ∙ sym (sets_append l i a b);
      behind = omega (arith, length-append a b);
    }

-- a text that is stored from the start
pub finished : {l t out u : List ℕ} {k : ℕ} → Pushed l 0 t out k → t ≡ u → (out ≡ sets l 0 u) × (k ≡ length u)
finished {l} {t} {out} {u} {k} p e =
    let f = p.behind in
    let n : k ≡ length t = omega arith in
    (p.stored ∙ ap (sets l 0) e, n ∙ ap length e)
