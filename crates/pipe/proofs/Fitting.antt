-- A success's number is 64 or 128, and a refusal has the offset 0.
use Rattle.std.specs.Prelude.{Ok}
use mathlib.Core.Bool.{◌&&◌}
use Prim.Native.Nat.{◌*◌, ◌^◌, ◌<◌}
use lib.Dec.{eqb, lit≤}
use lib.ListN.{length}
use Rattle.answer.specs.declared.Refusal.TheVariants.{Width, Operand}
use Rattle.answer.proofs.Injective.{fits_unless}
use Rattle.quasigroup.specs.Tables.{known_width}
use Rattle.quasigroup.proofs.Widths.{of_known}
use Rattle.pipe.specs.Fitting.{BlockFits}

pub block_fits : BlockFits
block_fits w m b =
    fits_unless (2 ^ 32) (known_width w) Width _ λ k.
    fits_unless (2 ^ 32) (eqb (length b) (2 * w) && eqb (length m) (2 * w)) Operand (Ok (2 * w)) λ _.
    of_known (λ w. 2 * w < 2 ^ 32) (lit≤ tt) (lit≤ tt) w k
