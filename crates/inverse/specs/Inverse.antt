-- Document 02, Paper 1: the inverse sheet, which it calls the sheet that goes home, and the call that writes it.
use Rattle.std.specs.Prelude.{true, List, ◌++◌, map, reverse, ℕ, leb, length, drop, Ok}
use Rattle.answer.specs.Answer.{Answer}
use Rattle.answer.specs.declared.Refusal.TheVariants.{Output}
use Rattle.answer.specs.Refuse.{unless, outcome}
use Rattle.sheet.specs.Effect.{undone}
use Rattle.sheet.specs.SheetAnswer.{sheet_answer}
use Rattle.inverse.specs.Encoding.{all_encoded, commands_of}

-- the undoing commands, last one first, each with the places and the K of the command that it undoes
abbrev pub inverse_sheet : ℕ → List ℕ → List ℕ
inverse_sheet w s = all_encoded w s (reverse (map undone (commands_of w s)))

-- the output with the inverse sheet in its first bytes, and the bytes behind it as they were
abbrev pub inverse_written : ℕ → List ℕ → List ℕ → List ℕ
inverse_written w s out = inverse_sheet w s ++ drop (length s) out

-- 4, the output's n bytes are fewer than the sheet's m; or m
abbrev pub room_answer : ℕ → ℕ → Answer
room_answer m n = unless (leb m n) Output (Ok m)

-- The call's answer: 5; 7 to 11 as for a run; 4; or the sheet's length
abbrev pub inverse_answer : ℕ → List ℕ → List ℕ → Answer
inverse_answer w s out = sheet_answer w true s (room_answer (length s) (length out))

-- .. and the output afterwards; a refused call changes no byte
abbrev pub inverse_out : ℕ → List ℕ → List ℕ → List ℕ
inverse_out w s out = outcome (inverse_answer w s out) (inverse_written w s out) out
