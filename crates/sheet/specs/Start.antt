-- Document 02, Paper 5: where a slice, a run from an offset on, may start.
use Rattle.std.specs.Prelude.{Bool, false, ◌||◌, List, [], ◌∷◌, ℕ, eqb, length, Ok, Err}
use Rattle.answer.specs.Answer.{Answer, refused_at}
use Rattle.answer.specs.declared.Refusal.TheVariants.{Start}
use Rattle.answer.specs.Refuse.{unless}
use Rattle.sheet.specs.Sheet.{plan_of}

-- i is one of the offsets
abbrev pub among : ℕ → List ℕ → Bool
among i [] = false
among i (j ∷ l) = eqb i j || among i l

-- i is the offset of the first byte of a command, before the sheet's first fault if it has one, or the sheet's length
abbrev pub is_start : ℕ → List ℕ → ℕ → Bool
is_start w s i = among i (plan_of w s).offsets || eqb i (length s)

-- behind the answer of a test: where that is a refusal it stays; then 14, there is no start
abbrev pub then_start : Bool → Answer → Answer
then_start start (Ok n) = unless start Start (Ok n)
then_start start (Err err) = Err err
