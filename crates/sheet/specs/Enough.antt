-- A scan counts its steps, so that it is a definition that ends. `length s` steps are enough: the scan ends where the sheet does or at a fault,
-- and never for lack of steps. Over the number n of places. The statement; proofs/Enough.antt shows it.
use Rattle.std.specs.Prelude.{◌≡◌, List, [], ℕ, ◌≤◌, length, Ok, Err, Some, None}
use Rattle.answer.specs.declared.Refusal.{Refusal}
use Rattle.sheet.specs.declared.Decoded.{Decoded}
use Rattle.sheet.specs.Read.{read_among}
use Rattle.sheet.specs.Sheet.{Sound, Plan, refused, behind, scan_among}

-- the plan of a sheet from offset i on, with no count of steps: a command and the plan from the offset behind it, a fault, or the sheet's end
pub data PlanFrom (n w : ℕ) (s : List ℕ) : ℕ → Plan → Type 0 where
  at_command : {i : ℕ} {d : Decoded} {p : Plan} → read_among n w s i ≡ Ok (Some d) → PlanFrom n w s d.next p → PlanFrom n w s i (behind i p)
  at_fault : {i : ℕ} {r : Refusal} → read_among n w s i ≡ Err r → PlanFrom n w s i (refused r i)
  at_end : {i : ℕ} → read_among n w s i ≡ Ok None → PlanFrom n w s i (record { offsets = []; outcome = Sound })

-- what `length s` steps find is the plan, there is no other, and more steps change nothing
pub record Enough (n w : ℕ) (s : List ℕ) (i : ℕ) : Type 0 where
  pub plan : PlanFrom n w s i (scan_among n (length s) w s i)
  pub only : (p : Plan) → PlanFrom n w s i p → p ≡ scan_among n (length s) w s i
  pub more : (f : ℕ) → length s ≤ f → scan_among n f w s i ≡ scan_among n (length s) w s i

-- for every number of places, width, sheet and offset
abbrev pub StepsEnough : Type 0
StepsEnough = (n w : ℕ) (s : List ℕ) (i : ℕ) → Enough n w s i
