-- A length below 2^63 fits beside refusals that have bit 63, whose offset is 0.
use Prim.Native.Nat.{◌%◌, ◌^◌}
use lib.Dec.{eqb, leb}
use Rattle.answer.specs.declared.Refusal.TheVariants.{Width, Records, Output}
use Rattle.answer.proofs.Injective.{fits_unless}
use Rattle.quasigroup.specs.Tables.{known_width}
use Rattle.shuffle.specs.Shuffle.{record_length}
use Rattle.shuffle.specs.Fitting.{RecordsFit}

pub records_fit : RecordsFit
records_fit w m n h =
    fits_unless (2 ^ 63) (known_width w) Width _ λ _.
    fits_unless (2 ^ 63) (eqb (m % record_length w) 0) Records _ λ _.
    fits_unless (2 ^ 63) (leb m n) Output _ λ _. h
