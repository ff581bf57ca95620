-- What opening and feeding leave of a hash that C lends, with the answer as C's number. Only this crate's contracts cite these: C's say the same
-- with the definitions of crates digest, narrow and wide.
use Rattle.std.specs.Prelude.{List, ℕ}
use Rattle.answer.specs.Number.{number_of, marked_number}
use Rattle.answer.specs.Refuse.{outcome}
use Rattle.digest.specs.Kind.{narrow_kind, wide_kind}
use Rattle.digest.specs.State.{open_answer, opened}
use Rattle.narrow.specs.declared.Narrow.{Narrow}
use Rattle.wide.specs.declared.Wide.{Wide}
use Rattle.narrow.specs.Outcomes.{narrow_of, fed as fedNarrow}
use Rattle.wide.specs.Outcomes.{wide_of, fed as fedWide}
use Rattle.pieces.specs.declared.NarrowPiece.{NarrowPiece}
use Rattle.pieces.specs.declared.WidePiece.{WidePiece}

-- opening: the opened state, or what stood there
abbrev pub narrow_opened : Narrow → ℕ → NarrowPiece
narrow_opened h n = record { number = number_of (open_answer narrow_kind n); state = outcome (open_answer narrow_kind n) (narrow_of (opened narrow_kind n)) h }

abbrev pub wide_opened : Wide → ℕ → WidePiece
wide_opened h n = record { number = number_of (open_answer wide_kind n); state = outcome (open_answer wide_kind n) (wide_of (opened wide_kind n)) h }

-- feeding: its success is a total, which can pass 2^32, so its refusals are marked
abbrev pub narrow_fed : Narrow → List ℕ → NarrowPiece
narrow_fed h s = record { number = marked_number (fedNarrow h s).answer; state = (fedNarrow h s).state }

abbrev pub wide_fed : Wide → List ℕ → WidePiece
wide_fed h s = record { number = marked_number (fedWide h s).answer; state = (fedWide h s).state }
