-- Document 02, Paper 3, in its words: what reading tells of a command's units, and what a run, forward or backward, answers. The statements;
-- proofs/Counting.antt shows them.
use Rattle.std.specs.Prelude.{◌≡◌, ℕ, ◌+◌, ◌≤◌, get_or, Ok, Err, Some, None}
use mathlib.Core.List.{List, map, sum}
use Rattle.sheet.specs.declared.Command.{Command}
use Rattle.sheet.specs.declared.Decoded.{Decoded}
use Rattle.sheet.specs.Read.{Read, read_at}
use Rattle.sheet.specs.Units.{units}
use Rattle.sheet.specs.Sheet.{plan_of}
use Rattle.sheet.specs.Effect.{undone}
use Rattle.invertible.specs.RoundTrip.{Direction}
use Rattle.sheet.specs.Run.{turned, order, run_answer}

-- of a command that was read, with opcode b: 0 units for 05 and 06, and 1 for every other
pub record ReadUnits (b : ℕ) (d : Decoded) : Type 0 where
  pub of_command : d.units ≡ units d.command
  pub of_swap : b ≡ 5 → d.units ≡ 0
  pub of_flip : b ≡ 6 → d.units ≡ 0
  pub of_others : (b ≡ 5 → ⊥) → (b ≡ 6 → ⊥) → d.units ≡ 1

abbrev pub ReadingTells : Type 0
ReadingTells = (w : ℕ) (s : List ℕ) (i : ℕ) (d : Decoded) → read_at w s i ≡ Ok (Some d) → ReadUnits (get_or s i 0) d

-- a command and the one that undoes it have the same units
abbrev pub UndoneAlike : Type 0
UndoneAlike = (c : Command) → units (undone c) ≡ units c

-- the units of what a run in the direction does at an offset: of the command, or of the one that undoes it
abbrev pub units_done : Direction → Read → ℕ
units_done g (Ok (Some d)) = units (turned g d.command)
units_done g (Err r) = 0
units_done g (Ok None) = 0

-- .. and of all that it does, in the order in which it does it
abbrev pub run_units : Direction → ℕ → List ℕ → ℕ
run_units g w s = sum ◌+◌ 0 (map (λ i. units_done g (read_at w s i)) (order g (plan_of w s).offsets))

-- a run that is not refused answers the units of what it does, in either direction, and these are 1,365 at most: 4,096 / 3
pub record RunUnits (g : Direction) (w : ℕ) (s : List ℕ) (n : ℕ) : Type 0 where
  pub done : n ≡ run_units g w s
  pub most : n ≤ 1365

abbrev pub RunsCount : Type 0
RunsCount = (g : Direction) (w : ℕ) (s b : List ℕ) (n : ℕ) → run_answer w s b ≡ Ok n → RunUnits g w s n
