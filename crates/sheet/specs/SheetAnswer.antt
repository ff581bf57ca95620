-- Document 01, "What each operation refuses", for a run and every call that refuses as a run does: which sheet is refused how, each refusal in its order;
-- over the number n of places.
use Rattle.std.specs.Prelude.{Bool, List, ℕ}
use Rattle.answer.specs.Answer.{Answer, refused_at}
use Rattle.answer.specs.declared.Refusal.TheVariants.{Width, Operand}
use Rattle.answer.specs.Refuse.{unless}
use Rattle.quasigroup.specs.Tables.{known_width}
use Rattle.sheet.specs.Read.{place_count}
use Rattle.sheet.specs.Sheet.{Outcome, Sound, Faulty, plan_among}

-- a sheet's first fault refuses, at its command's offset; a sound sheet goes on
abbrev pub unless_sound : Outcome → Answer → Answer
unless_sound Sound next = next
unless_sound (Faulty r i) next = refused_at r i

-- 5, the width is not 32 or 64; 6, the call's operands do not fit, by its own test (`true` where it asks nothing of them); 7 to 11 by the sheet;
-- and then what the call goes on to answer, which may be a refusal of its own
unfoldable pub sheet_answer_among : ℕ → ℕ → Bool → List ℕ → Answer → Answer
sheet_answer_among n w fit s next = unless (known_width w) Width (unless fit Operand (unless_sound (plan_among n w s).outcome next))

-- among the eight
abbrev pub sheet_answer : ℕ → Bool → List ℕ → Answer → Answer
sheet_answer w fit s next = sheet_answer_among place_count w fit s next
