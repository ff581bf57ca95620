-- Document 02, Paper 5: the state of a forward run after some of its commands, from any offset of its sheet on.
use Rattle.std.specs.Prelude.{List, ℕ, zero, suc, ◌+◌, length, Ok, Err, Some, None}
use Rattle.sheet.specs.Read.{Read, read_at}
use Rattle.sheet.specs.Sheet.{scan_from}
use Rattle.sheet.specs.Effect.{effect}

-- the offset that was reached, where the next command stands if there is one; the units of the commands done; and the vectors
pub record RunState : Type 0 where
  pub offset : ℕ
  pub units : ℕ
  pub vectors : List (List ℕ)

abbrev pub run_state : ℕ → ℕ → List (List ℕ) → RunState
run_state i t v = record { offset = i; units = t; vectors = v }

-- nothing is done yet, from offset i on
abbrev pub starting_at : ℕ → List (List ℕ) → RunState
starting_at i v = run_state i 0 v

-- one command more, by what stands at the offset that was reached; where none does, the state stays
abbrev pub advanced : ℕ → List ℕ → Read → RunState → RunState
advanced w s (Ok (Some d)) p = run_state d.next (p.units + d.units) (effect w s d.command p.vectors)
advanced w s (Err r) p = p
advanced w s (Ok None) p = p

-- the state after k commands more of the sheet s, at width w, or after those that come before its end or its first fault if they are fewer
abbrev pub state_after : ℕ → ℕ → List ℕ → RunState → RunState
state_after zero w s p = p
state_after (suc k) w s p = state_after k w s (advanced w s (read_at w s p.offset) p)

-- the offsets of the commands that remain, from offset i on up to the sheet's end or its first fault
abbrev pub remaining : ℕ → List ℕ → ℕ → List ℕ
remaining w s i = (scan_from (length s) w s i).offsets
