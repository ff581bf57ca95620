-- Document 01, demand 3: the way home of a list of calls on the same state, such as lent memory. A call is of any kind that has an `exchanged` one to take it
-- back: the same call in the other direction, as in demand 3, or one in its own direction that does the same. The statement; proofs/RoundTrip.antt shows it
-- of calls that can be taken back.
use Rattle.std.specs.Prelude.{◌≡◌, List, map, reverse}
use Rattle.invertible.specs.Invertible.{stepped, outputs}

pub data Direction : Type 0 where
  Forward : Direction
  Backward : Direction

abbrev pub other : Direction → Direction
other Forward = Backward
other Backward = Forward

-- document 01's way home: the list from its last call to its first, each exchanged
abbrev pub reversal : {C : Type 0} → (C → C) → List C → List C
reversal exchanged l = map exchanged (reverse l)

-- the way home finds the starting state
abbrev pub Returns : {C S : Type 0} → (C → C) → (C → S → S) → List C → S → Type 0
Returns exchanged after l s = stepped after (reversal exchanged l) (stepped after l s) ≡ s

-- .. and each call on it answers what it answered on the way out
pub record RoundTrip {C S A : Type 0} (exchanged : C → C) (after : C → S → S) (answer_to : C → S → A) (l : List C) (s : S) : Type 0 where
  pub state : Returns exchanged after l s
  pub same : outputs after answer_to (reversal exchanged l) (stepped after l s) ≡ reverse (outputs after answer_to l s)
