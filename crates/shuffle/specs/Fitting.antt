-- What both calls answer fits the number that C receives, where a refusal has bit 63, so that the number tells the answer (`NumbersInjective`, crate
-- answer). Asked: fewer than 2^63 bytes, as each slice has. The statement; proofs/Fitting.antt shows it.
use Rattle.std.specs.Prelude.{ℕ, ◌^◌, ◌<◌}
use Rattle.answer.specs.Injective.{Fits}
use Rattle.shuffle.specs.Shuffle.{records_answer}

abbrev pub RecordsFit : Type 0
RecordsFit = (w m n : ℕ) → m < 2 ^ 63 → Fits (2 ^ 63) (records_answer w m n)
