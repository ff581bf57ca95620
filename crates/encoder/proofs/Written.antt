-- Bytes that are stored one behind the other.
use mathlib.Core.Path.{◌≡◌, sym, ap, ap₂, ◌∙◌}
use mathlib.Core.List.{List, [], ◌∷◌, ◌++◌}
use Prim.Native.Nat.{ℕ, suc, ◌+◌, ◌≤◌}
use native.Mathlib.Omega.{arith}
use lib.ListN.{length, set, take, drop}
use lib.Seq.{sets, sets-eq, length-sets}

module _ (l : List ℕ) (i a b : ℕ) {m : List ℕ} (two : m ≡ sets l i (a ∷ b ∷ [])) where
  -- a third
  pub then_one : (x : ℕ) → set m (i + 2) x ≡ sets l i (a ∷ b ∷ x ∷ [])
  then_one x = let e : i + 2 ≡ suc (suc i) = omega arith in ap₂ {C = List ℕ} (λ (n : List ℕ) (j : ℕ). set n j x) two e

  -- a list of them
  pub then_copied : (x : List ℕ) {n : List ℕ} → i + 2 + length x ≤ length l → n ≡ take (i + 2) m ++ x ++ drop (i + 2 + length x) m → n ≡ sets l i (a ∷ b ∷ x)
  then_copied x h e =
      let size : length m ≡ length l = ap length two ∙ length-sets l i (a ∷ b ∷ []) in
      let j : i + 2 ≡ suc (suc i) = omega arith in
      e ∙ sym (sets-eq x m (i + 2) (omega arith)) ∙ ap₂ {C = List ℕ} (λ (n : List ℕ) (k : ℕ). sets n k x) two j
