-- A sheet that is accepted has at most 4,096 bytes, and the faults of others have small offsets.
use mathlib.Core.Bool.{true}
use Prim.Native.Nat.{◌^◌}
use native.Mathlib.Omega.{arith}
use lib.Dec.{leb}
use lib.ListN.{length}
use Rattle.answer.specs.declared.Refusal.TheVariants.{Output}
use Rattle.answer.specs.Injective.{Fits}
use Rattle.answer.proofs.Refuse.{unless_cases}
use Rattle.sheet.specs.Read.{place_count}
use Rattle.sheet.proofs.Checked.{sound_short}
use Rattle.sheet.proofs.Fitting.{fault_fits}
use Rattle.sheet.proofs.SheetAnswer.{by_tests}
use Rattle.inverse.specs.Fitting.{InverseFits}

pub inverse_fits : InverseFits
inverse_fits w s out =
    by_tests place_count w true s _ (Fits (2 ^ 32)) (λ _. omega arith) (λ _. omega arith) (fault_fits w s) λ p.
    unless_cases (Fits (2 ^ 32)) (leb (length s) (length out)) Output _ (λ _. omega arith) (λ _. omega (arith, sound_short w s p.sheet))
