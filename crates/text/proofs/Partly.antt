-- A text that is stored piece by piece.
use mathlib.Core.Path.{◌≡◌, refl, ap, ap₂, sym, ◌∙◌}
use mathlib.Core.List.{List, [], ◌∷◌, ◌++◌}
use Prim.Native.Nat.{ℕ, ◌+◌, ◌<◌}
use native.Mathlib.Numerals.{add-one}
use native.Mathlib.Omega.{arith}
use lib.ListN.{length, get_or, drop, length-append}
use lib.Seq.{sets, drop-cons}
use Rattle.text.specs.Pushed.{Pushed}
use Rattle.text.proofs.Pushed.{sets_append}

-- the rest of a list begins with its next element
pub rest_begins : (t : List ℕ) (i : ℕ) → i < length t → drop i t ≡ get_or t i 0 ∷ drop (i + 1) t
rest_begins t i h = drop-cons t i 0 h ∙ ap (λ (j : ℕ). get_or t i 0 ∷ drop j t) (sym (add-one i))

-- of a text from place i of l₀ on, `rest` is left, from place `next` of l on
pub record Partly (l₀ : List ℕ) (i : ℕ) (text l : List ℕ) (next : ℕ) (rest : List ℕ) : Type 0 where
  pub stored : sets l next rest ≡ sets l₀ i text
  pub left : next + length rest ≡ i + length text

pub none_yet : (l₀ : List ℕ) (i : ℕ) (text : List ℕ) → Partly l₀ i text l₀ i text
none_yet l₀ i text = record { stored = refl; left = refl }

-- one piece more
pub one_more : {l₀ text l m : List ℕ} {i next k : ℕ} (rest here later : List ℕ) → Partly l₀ i text l next rest → rest ≡ here ++ later → Pushed l next here m k
    → Partly l₀ i text m k later
one_more {l} {next} rest here later p e q =
    let f = q.behind in
    let g : length rest ≡ length here + length later = ap length e ∙ length-append here later in
    record {
      stored = ap₂ {C = List ℕ} (λ a b. sets a b later) q.stored f ∙ sym (sets_append l next here later) ∙ ap (sets l next) (sym e) ∙ p.stored;
      left = omega (arith, p.left, g);
    }

-- nothing is left
pub all_stored : {l₀ text l : List ℕ} {i next : ℕ} (rest : List ℕ) → Partly l₀ i text l next rest → rest ≡ [] → Pushed l₀ i text l next
all_stored {l} {next} rest p e = record { stored = ap (sets l next) (sym e) ∙ p.stored; behind = omega (arith, p.left, ap length e) }
