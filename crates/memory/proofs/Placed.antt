-- A list with a part of it written over.
use mathlib.Core.Path.{◌≡◌, ap, ap₂, sym, ◌∙◌}
use mathlib.Core.List.{List, ◌++◌, append_assoc}
use Prim.Native.Nat.{ℕ, ◌+◌, ◌-◌, ◌≤◌}
use native.Mathlib.Omega.{arith}
use lib.ListN.{length, take, drop, length-append, length-drop}
use lib.Seq.{take_at, drop-append-add, drop-drop, length-take-le}

-- the output o with d over the bytes from i to i + w
abbrev pub placed : List ℕ → ℕ → ℕ → List ℕ → List ℕ
placed o i w d = take i o ++ (d ++ drop (i + w) o)

module _ (o : List ℕ) (i w : ℕ) (d : List ℕ) (l : length d ≡ w) (h : i + w ≤ length o) where
  front_length : length (take i o ++ d) ≡ i + w
  front_length = length-append (take i o) d ∙ omega (arith, length-take-le i o (omega arith))

  apart : placed o i w d ≡ (take i o ++ d) ++ drop (i + w) o
  apart = sym (append_assoc (take i o) d (drop (i + w) o))

  pub placed_length : length (placed o i w d) ≡ length o
  placed_length = ap length apart ∙ length-append (take i o ++ d) (drop (i + w) o) ∙ omega (arith, front_length, length-drop (i + w) o)

  front : take (i + w) (placed o i w d) ≡ take i o ++ d
  front = ap (take (i + w)) apart ∙ take_at (take i o ++ d) (drop (i + w) o) (i + w) front_length

  behind : (e : ℕ) → i + w ≤ e → drop e (placed o i w d) ≡ drop e o
  behind e g =
      let j = e - (i + w) in
      let f : e ≡ length (take i o ++ d) + j = omega (arith, front_length) in
      let k : i + w + j ≡ e = omega arith in
      ap₂ {C = List ℕ} drop f apart ∙ drop-append-add (take i o ++ d) (drop (i + w) o) j ∙ drop-drop j (i + w) o ∙ ap (λ (x : ℕ). drop x o) k

  -- with x to come behind d, to byte e
  pub one_more : (x : List ℕ) (e : ℕ) → i + w ≤ e
      → take (i + w) (placed o i w d) ++ (x ++ drop e (placed o i w d)) ≡ take i o ++ ((d ++ x) ++ drop e o)
  one_more x e g =
      ap₂ {C = List ℕ} (λ a b. a ++ (x ++ b)) front (behind e g) ∙ append_assoc (take i o) d (x ++ drop e o)
      ∙ ap (λ (y : List ℕ). take i o ++ y) (sym (append_assoc d x (drop e o)))
