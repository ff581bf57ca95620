-- Document 01, "The load sheet", as document 02, Paper 3, reads it: the work of a sheet is the sum of the units of its commands; over
-- the number n of places.
use mathlib.Core.List.{List, map, sum}
use Rattle.std.specs.Prelude.{ℕ, ◌+◌, length, Result, Ok, Err, Some, None}
use Rattle.answer.specs.Answer.{Answer, refused_at}
use Rattle.answer.specs.declared.Refused.{Refused}
use Rattle.sheet.specs.declared.Counts.{Counts}
use Rattle.sheet.specs.Read.{Read, place_count, read_among}
use Rattle.sheet.specs.Sheet as Sheet
use Rattle.sheet.specs.Sheet.{Plan, Outcome}

-- the units that reading tells
abbrev pub units_in : Read → ℕ
units_in (Ok (Some d)) = d.units
units_in (Err r) = 0
units_in (Ok None) = 0

-- .. at an offset
abbrev pub units_among : ℕ → ℕ → List ℕ → ℕ → ℕ
units_among n w s i = units_in (read_among n w s i)

-- the units of the commands at the offsets
abbrev pub total_units_among : ℕ → ℕ → List ℕ → List ℕ → ℕ
total_units_among n w s l = sum ◌+◌ 0 (map (units_among n w s) l)

-- among the eight
abbrev pub units_at : ℕ → List ℕ → ℕ → ℕ
units_at w s i = units_among place_count w s i

abbrev pub total_units : ℕ → List ℕ → List ℕ → ℕ
total_units w s l = total_units_among place_count w s l

-- what the check of a sheet finds: the number of its commands and their units, or its first fault
abbrev pub Summary : Type 0
Summary = Result Counts Refused

abbrev pub counts : ℕ → ℕ → Counts
counts n t = record { commands = n; units = t }

-- .. with the offsets l of its commands
abbrev pub summed : ℕ → List ℕ → List ℕ → Outcome → Summary
summed w s l Sheet.Sound = Ok (counts (length l) (total_units w s l))
summed w s l (Sheet.Faulty r i) = refused_at r i

abbrev pub summary : ℕ → List ℕ → Plan → Summary
summary w s p = summed w s p.offsets p.outcome

-- .. as an answer: the units, or the first fault
abbrev pub found_answer : Summary → Answer
found_answer (Ok k) = Ok k.units
found_answer (Err err) = Err err
