-- Text stored one byte after the other. Only contracts inside the kit cite this: what is open to callers says which bytes it leaves.
use Rattle.std.specs.Prelude.{◌≡◌, List, ℕ, ◌+◌, length}
use Rattle.std.proofs.lemmas.List.Edits.{sets}

-- out is the list l with the text stored from place i on, as far as it has places, and next is the place behind the text
pub record Pushed (l : List ℕ) (i : ℕ) (text out : List ℕ) (next : ℕ) : Type 0 where
  pub stored : out ≡ sets l i text
  pub behind : next ≡ i + length text
