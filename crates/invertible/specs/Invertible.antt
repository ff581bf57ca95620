-- A step for each element of a list, one after the other, and steps that can be taken back.
use Rattle.std.specs.Prelude.{◌≡◌, List, [], ◌∷◌}

-- the state s after a step f for each element
abbrev pub stepped : {A S : Type 0} → (A → S → S) → List A → S → S
stepped f [] s = s
stepped f (a ∷ l) s = stepped f l (f a s)

-- what each step puts out, by o, of its element and the state that it finds
abbrev pub outputs : {A S O : Type 0} → (A → S → S) → (A → S → O) → List A → S → List O
outputs f o [] s = []
outputs f o (a ∷ l) s = o a s ∷ outputs f o l (f a s)

-- P holds of each element
pub data Each {A : Type 0} (P : A → Type 0) : List A → Type 0 where
  none : Each P []
  more : {a : A} {l : List A} → P a → Each P l → Each P (a ∷ l)

-- for elements of which P holds, the step f keeps the invariant I, and on states of which I holds the step g takes it back
pub record Invertible {A S : Type 0} (P : A → Type 0) (I : S → Type 0) (f g : A → S → S) : Type 0 where
  pub keeps : (a : A) (s : S) → P a → I s → I (f a s)
  pub back : (a : A) (s : S) → P a → I s → g a (f a s) ≡ s
