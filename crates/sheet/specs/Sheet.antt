-- Document 01, "The load sheet": a whole sheet, command by command, over the number n of places.
use Rattle.std.specs.Prelude.{cond, List, [], ◌∷◌, ℕ, zero, suc, ltb, length, Ok, Err, Some, None}
use Rattle.answer.specs.declared.Refusal.{Refusal}
use Rattle.answer.specs.declared.Refusal.TheVariants.{Sheet}
use Rattle.sheet.specs.Read.{Read, place_count, read_among}

-- every command is sound, or there is a first fault: its refusal, and the offset of the faulty command's first byte
pub data Outcome : Type 0 where
  Sound : Outcome
  Faulty : Refusal → ℕ → Outcome

-- the offsets of the commands before the sheet's end or its first fault, and which of the two comes then
pub record Plan : Type 0 where
  pub offsets : List ℕ
  pub outcome : Outcome

abbrev pub refused : Refusal → ℕ → Plan
refused r i = record { offsets = []; outcome = Faulty r i }

abbrev pub behind : ℕ → Plan → Plan
behind i p = record { offsets = i ∷ p.offsets; outcome = p.outcome }

-- with what stands at offset i, and the rest of the plan from the offset behind it
abbrev pub continue : Read → ℕ → (ℕ → Plan) → Plan
continue (Ok (Some d)) i rest = behind i (rest d.next)
continue (Err r) i rest = refused r i
continue (Ok None) i rest = record { offsets = []; outcome = Sound }

-- the plan from offset i on, in at most f steps. A command takes at least two bytes, so `length s` steps are enough, and a scan of as many never ends
-- for lack of them: the law is `StepsEnough`, in Enough.antt.
abbrev pub scan_among : ℕ → ℕ → ℕ → List ℕ → ℕ → Plan
scan_among n zero w s i = record { offsets = []; outcome = Sound }
scan_among n (suc f) w s i = continue (read_among n w s i) i (scan_among n f w s)

-- a whole sheet at width w: 7, over 4,096 bytes; then command by command
unfoldable pub plan_among : ℕ → ℕ → List ℕ → Plan
plan_among n w s = cond (ltb 4096 (length s)) (refused Sheet 0) (scan_among n (length s) w s 0)

-- among the eight
abbrev pub scan_from : ℕ → ℕ → List ℕ → ℕ → Plan
scan_from f w s i = scan_among place_count f w s i

abbrev pub plan_of : ℕ → List ℕ → Plan
plan_of w s = plan_among place_count w s

-- the number of commands, of a sheet without a fault
abbrev pub command_count : ℕ → List ℕ → ℕ
command_count w s = length (plan_of w s).offsets
