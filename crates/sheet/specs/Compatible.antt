-- Document 02, Paper 8: a sheet that is accepted among four places means the same among eight. The former meaning is that of the same definitions at
-- four places. The statements; proofs/Compatible.antt shows them.
use Rattle.std.specs.Prelude.{◌≡◌, true, List, ℕ, ◌*◌, length, take, drop}
use Rattle.answer.specs.Refuse.{is_done}
use Rattle.invertible.specs.Invertible.{Each}
use Rattle.memory.specs.Bytes.{Bytes}
use Rattle.sheet.specs.Read.{read_among, read_at}
use Rattle.sheet.specs.Sheet.{Sound, plan_among, plan_of}
use Rattle.invertible.specs.RoundTrip.{Direction}
use Rattle.sheet.specs.Run.{run_answer_among, run_bytes_among, run_answer, run_bytes}

-- whichever call reads the sheet s finds the same offsets and no fault, and at each of them the same command
pub record ReadAlike (w : ℕ) (s : List ℕ) : Type 0 where
  pub plan : plan_of w s ≡ plan_among 4 w s
  pub commands : Each (λ i. read_at w s i ≡ read_among 4 w s i) (plan_of w s).offsets

-- a run of the sheet s over the lent bytes b is accepted, with the answer of the run among four places over the first 4 * w bytes; it leaves of these what
-- that run leaves, and the others as they were
pub record RunAlike (g : Direction) (w : ℕ) (s b : List ℕ) : Type 0 where
  pub answer : run_answer w s b ≡ run_answer_among 4 w s (take (4 * w) b)
  pub first : take (4 * w) (run_bytes g w s b) ≡ run_bytes_among 4 g w s (take (4 * w) b)
  pub others : drop (4 * w) (run_bytes g w s b) ≡ drop (4 * w) b

-- for every width, direction, sheet that is accepted among four places, and 8 * w lent bytes
pub record Compatible : Type 0 where
  pub reading : (w : ℕ) (s : List ℕ) → (plan_among 4 w s).outcome ≡ Sound → ReadAlike w s
  pub running : (g : Direction) (w : ℕ) (s b : List ℕ) → Bytes s → Bytes b → length b ≡ 8 * w
      → is_done (run_answer_among 4 w s (take (4 * w) b)) ≡ true → RunAlike g w s b
