-- `length s` steps are enough for a scan.
use Rattle.std.specs.Prelude.{Ok, Err, Some, None}
use mathlib.Core.Path.{◌≡◌, refl, sym, ap, ◌∙◌}
use mathlib.Core.List.{List}
use Prim.Native.Nat.{ℕ, zero, suc, ◌-◌, ◌≤◌}
use native.Mathlib.Omega.{arith}
use lib.ListN.{length}
use Rattle.sheet.specs.Read.{Read, read_among}
use Rattle.sheet.specs.Sheet.{Plan, behind, continue, scan_among}
use Rattle.sheet.specs.Enough.{PlanFrom, at_command, at_fault, at_end, StepsEnough}
use Rattle.sheet.specs.Sound.{SoundRead}
use Rattle.sheet.proofs.Sound.{read_sound}
use Rattle.sheet.proofs.Scan.{read_end, scan_end}
use Rattle.sheet.proofs.Rest.{enough, rest_got, rest_fault}

module _ (n w : ℕ) (s : List ℕ) where
  plan_with : (f i : ℕ) (r : Read) → read_among n w s i ≡ r → SoundRead n w (length s) i r → length s - i ≤ suc f
      → ((j : ℕ) → length s - j ≤ f → PlanFrom n w s j (scan_among n f w s j)) → PlanFrom n w s i (continue r i (scan_among n f w s))
  plan_with f i (Ok (Some d)) e h l k = at_command e (k d.next (omega (arith, h.on)))
  plan_with f i (Err r) e h l k = at_fault e
  plan_with f i (Ok None) e h l k = at_end e

  plan_from : (f i : ℕ) → length s - i ≤ f → PlanFrom n w s i (scan_among n f w s i)
  plan_from zero i h = at_end (read_end n w s i (omega arith))
  plan_from (suc f) i h = plan_with f i (read_among n w s i) refl (read_sound n w s i) h (plan_from f)

  only_plan : {i : ℕ} {p : Plan} → PlanFrom n w s i p → p ≡ scan_among n (length s) w s i
  only_plan (at_command {i} {d} e h) = ap (behind i) (only_plan h) ∙ sym (rest_got n w s i d e)
  only_plan (at_fault {i} {r} e) = sym (rest_fault n w s i r e)
  only_plan (at_end {i} e) = sym (scan_end n w s (length s) i e)

pub steps_enough : StepsEnough
steps_enough n w s i =
    record {
      plan = plan_from n w s (length s) i (omega arith);
      only = λ p h. only_plan n w s h;
      more = λ f h. enough n w s f (length s) i (omega arith) (omega arith);
    }
