-- How the tables of the left half's inverses list places. The rows of a table are of one length: a shorter list ends in places 0 that cancel.
use Rattle.std.specs.Prelude.{List, [], ◌∷◌, ◌++◌, map, ℕ, suc, ◌-◌, replicate}
use Rattle.quasigroup.specs.Division.{left_unxors, left_inverse}
use Rattle.digest.specs.Blocks.{filled}

-- the places from i on at which a row has more than 2, each as often as it has more
abbrev pub above : ℕ → List ℕ → List ℕ
above i [] = []
above i (k ∷ r) = replicate (k - 2) i ++ above (suc i) r

-- the places from i on at which a row has less than 2, each as often as it has less
abbrev pub below : ℕ → List ℕ → List ℕ
below i [] = []
below i (k ∷ r) = replicate (2 - k) i ++ below (suc i) r

-- the combinations whose XOR is rotated sum i; three of them and place 0 twice, or five
abbrev pub unxor_places : List (List ℕ)
unxor_places = map (filled 5) left_unxors

-- The sums that word i has beside two fifths of all, and those that it lacks. A row of the inverse comes to 13, three less than eight twos, so
-- that three more places are taken away than added: as many places 0 fill up the one side as the other.
abbrev pub plus_places : List (List ℕ)
plus_places = map (λ k. filled 2 (above 0 k)) left_inverse

abbrev pub minus_places : List (List ℕ)
minus_places = map (λ k. filled 5 (below 0 k)) left_inverse
