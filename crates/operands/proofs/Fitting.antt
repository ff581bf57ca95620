-- A success's number is 32 or 64, and a refusal has the offset 0.
use Rattle.std.specs.Prelude.{Ok}
use mathlib.Core.Bool.{◌&&◌}
use Prim.Native.Nat.{◌^◌, ◌<◌}
use lib.Dec.{eqb, leb, lit≤}
use lib.ListN.{length}
use Rattle.answer.specs.declared.Refusal.TheVariants.{Width, Operand, Output}
use Rattle.answer.proofs.Injective.{fits_unless}
use Rattle.quasigroup.specs.Tables.{known_width}
use Rattle.quasigroup.proofs.Widths.{of_known}
use Rattle.operands.specs.Fitting.{OperationFits}

pub operation_fits : OperationFits
operation_fits w x y out =
    fits_unless (2 ^ 32) (known_width w) Width _ λ k.
    fits_unless (2 ^ 32) (eqb (length x) w && eqb (length y) w) Operand _ λ _.
    fits_unless (2 ^ 32) (leb w (length out)) Output (Ok w) λ _.
    of_known (λ w. w < 2 ^ 32) (lit≤ tt) (lit≤ tt) w k
