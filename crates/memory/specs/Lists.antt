-- Parts of a list by their places, and sums.
use mathlib.Core.List.{List, sum}
use Rattle.std.specs.Prelude.{ℕ, ◌+◌, take, drop}

-- the n bytes of s from place i on, or those that are there if fewer
abbrev pub bytes_at : ℕ → List ℕ → ℕ → List ℕ
bytes_at n s i = take n (drop i s)

-- the sum of the elements
abbrev pub total : List ℕ → ℕ
total l = sum ◌+◌ 0 l
