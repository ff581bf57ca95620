-- A sheet has at most 4,096 bytes, so its faults have small offsets and its units are few.
use Rattle.std.specs.Prelude.{Ok, Err, Some, None}
use mathlib.Core.Path.{◌≡◌, subst}
use mathlib.Core.List.{List}
use Prim.Native.Nat.{ℕ, zero, suc, ◌^◌, ◌≤◌, ◌<◌}
use native.Mathlib.Omega.{arith}
use borrow.Author.Tests.{ltb-false}
use lib.Dec.{ltb}
use lib.ListN.{length}
use Rattle.answer.specs.declared.Refusal.{Refusal}
use Rattle.answer.specs.Injective.{Fits}
use Rattle.sheet.specs.Read.{Read, place_count, read_at}
use Rattle.sheet.specs.Sheet.{Outcome, Sound, Faulty, Plan, continue, scan_from, plan_among, plan_of}
use Rattle.sheet.specs.Sound.{SoundRead}
use Rattle.sheet.specs.Fitting.{RunFits}
use Rattle.answer.proofs.Tests.{split}
use Rattle.sheet.proofs.Sound.{read_sound}
use Rattle.sheet.proofs.SheetAnswer.{by_tests}
use Rattle.sheet.proofs.Counting.{few_run}

-- a fault lies in a sheet of n bytes
abbrev Inside : ℕ → Outcome → Type 0
Inside n Sound = Unit {0}
Inside n (Faulty r i) = i < n

below : {n : ℕ} (o : Outcome) → n ≤ 4096 → Inside n o → Inside (2 ^ 32) o
below Sound h k = tt
below (Faulty r i) h k = omega arith

module _ (w : ℕ) (s : List ℕ) where
  inside_with : (r : Read) (i : ℕ) (F : ℕ → Plan) → SoundRead place_count w (length s) i r → ((n : ℕ) → Inside (length s) (F n).outcome)
      → Inside (length s) (continue r i F).outcome
  inside_with (Ok (Some d)) i F h k = k d.next
  inside_with (Err r) i F h k = h
  inside_with (Ok None) i F h k = tt

  inside : (f i : ℕ) → Inside (length s) (scan_from f w s i).outcome
  inside zero i = tt
  inside (suc f) i = inside_with (read_at w s i) i (scan_from f w s) (read_sound place_count w s i) (inside f)

  plan_inside : Inside (2 ^ 32) (plan_of w s).outcome
  unfolding plan_among
  plan_inside =
      split (λ (p : Plan). Inside (2 ^ 32) p.outcome) (ltb 4096 (length s)) _ _ (λ _. omega arith) λ h.
      below (scan_from (length s) w s 0).outcome (ltb-false 4096 (length s) h) (inside (length s) 0)

  pub fault_fits : (r : Refusal) (i : ℕ) → (plan_of w s).outcome ≡ Faulty r i → i < 2 ^ 32
  fault_fits r i e = subst (Inside (2 ^ 32)) e plan_inside

pub run_fits : RunFits
run_fits w s b =
    by_tests place_count w _ s _ (Fits (2 ^ 32)) (λ _. omega arith) (λ _. omega arith) (fault_fits w s)
    (λ p. omega (arith, few_run w s p.width p.sheet))
