-- Document 02, Paper 5, in its words: what one slice does, and two after each other. The statements; proofs/Exact.antt shows them.
use Rattle.std.specs.Prelude.{◌≡◌, true, List, ◌++◌, ℕ, ◌+◌, length, get_or, take, Ok}
use Rattle.answer.specs.Refuse.{is_done}
use Rattle.invertible.specs.RoundTrip.{Forward}
use Rattle.memory.specs.Bytes.{Bytes}
use Rattle.sheet.specs.Sheet.{Sound, plan_of}
use Rattle.sheet.specs.Work.{total_units}
use Rattle.sheet.specs.Run.{steps}
use Rattle.sheet.specs.Progress.{RunState, remaining}
use Rattle.sheet.specs.Start.{is_start}
use Rattle.slice.specs.SliceAnswer.{reaching}
use Rattle.slice.specs.Slice.{sliced, slice_tests, slice_answer, slice_bytes}

-- From a start of a sheet that has no fault, with budget k. The commands that remain are the sheet's last ones. The first k of them are done, or all if they
-- are fewer: the vectors and the units are those of a run over these, and the offset reached is that of the command behind them, or the sheet's length if
-- there is none
pub record Exactly (k w : ℕ) (s : List ℕ) (i : ℕ) (v : List (List ℕ)) : Type 0 where
  pub last : (l : List ℕ) × ((plan_of w s).offsets ≡ l ++ remaining w s i)
  pub vectors : (sliced k w s i v).vectors ≡ steps Forward w s (take k (remaining w s i)) v
  pub units : (sliced k w s i v).units ≡ total_units w s (take k (remaining w s i))
  pub offset : (sliced k w s i v).offset ≡ get_or (remaining w s i) k (length s)

abbrev pub SlicesExact : Type 0
SlicesExact = (k w : ℕ) (s : List ℕ) (i : ℕ) (v : List (List ℕ)) → (plan_of w s).outcome ≡ Sound → is_start w s i ≡ true → Exactly k w s i v

-- a slice that moves nothing, and reaches its own start with 0 units
pub record Still (k w : ℕ) (s : List ℕ) (i : ℕ) (b : List ℕ) : Type 0 where
  pub answer : slice_answer k w s i b ≡ Ok (reaching i 0)
  pub bytes : slice_bytes k w s i b ≡ b

-- so does every slice with budget 0, and every one that starts at the sheet's end, unless it is refused
pub record StandsStill : Type 0 where
  pub no_budget : (w : ℕ) (s : List ℕ) (i : ℕ) (b : List ℕ) → Bytes b → is_done (slice_tests w s i b) ≡ true → Still 0 w s i b
  pub at_end : (k w : ℕ) (s b : List ℕ) → Bytes b → is_done (slice_tests w s (length s) b) ≡ true → Still k w s (length s) b

-- the state q that a slice reached from the state p, with the units of both
abbrev pub joined : RunState → RunState → RunState
joined p q = record { offset = q.offset; units = p.units + q.units; vectors = q.vectors }

-- j commands, and then k from the state that these reached, are j + k
abbrev pub SlicesCompose : Type 0
SlicesCompose = (j k w : ℕ) (s : List ℕ) (i : ℕ) (v : List (List ℕ))
    → joined (sliced j w s i v) (sliced k w s (sliced j w s i v).offset (sliced j w s i v).vectors) ≡ sliced (j + k) w s i v
