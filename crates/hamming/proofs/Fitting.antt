-- The sum of the counts is far below 2^32.
use Prim.Native.Nat.{◌^◌}
use native.Mathlib.Omega.{arith}
use lib.Dec.{leb}
use lib.ListN.{length}
use Rattle.answer.specs.declared.Refusal.TheVariants.{Pairs, Output}
use Rattle.answer.proofs.Injective.{fits_unless}
use Rattle.hamming.specs.Counts.{pair_count, whole_pairs}
use Rattle.hamming.specs.Fitting.{CountingFits}
use Rattle.hamming.proofs.Counts.{total_le}
use Rattle.hamming.proofs.Tests.{whole}

pub counting_fits : CountingFits
counting_fits s n =
    fits_unless (2 ^ 32) (whole_pairs (length s)) Pairs _ λ e.
    fits_unless (2 ^ 32) (leb (pair_count (length s)) n) Output _ λ _.
    omega (arith, total_le s 0 (pair_count (length s)), (whole (length s) e).1)
