-- Document 02, Paper 1, in its words: what holds of the inverse of an accepted sheet. The statements; proofs/Inverts.antt shows them.
use Rattle.std.specs.Prelude.{◌≡◌, true, List, ℕ, ◌*◌, length, take, drop, Ok}
use Rattle.answer.specs.Answer.{refused_at}
use Rattle.answer.specs.declared.Refusal.{Refusal}
use Rattle.answer.specs.Refuse.{is_done}
use Rattle.invertible.specs.RoundTrip.{Direction, other}
use Rattle.memory.specs.Bytes.{Bytes}
use Rattle.sheet.specs.declared.Command.{Command}
use Rattle.sheet.specs.Read.{place_count}
use Rattle.sheet.specs.Effect.{undone}
use Rattle.sheet.specs.Run.{run_answer, run_bytes}
use Rattle.inverse.specs.Encoding.{Accepted, encoded}
use Rattle.inverse.specs.Inverse.{inverse_sheet, room_answer, inverse_answer, inverse_out}

-- an undoing command has the bytes of the command that it undoes, in the same order, but for the opcode
abbrev pub UndoingBytes : Type 0
UndoingBytes = (w : ℕ) (s : List ℕ) (c : Command) → drop 1 (encoded w s (undone c)) ≡ drop 1 (encoded w s c)

-- The inverse of the sheet s has the same length and is accepted; its inverse is s again. A run of it, forward or backward, answers what a run of s answers,
-- and does to the lent bytes b, whatever they are, what a run of s in the other direction does
pub record Inverts (w : ℕ) (s : List ℕ) : Type 0 where
  pub size : length (inverse_sheet w s) ≡ length s
  pub bytes : Bytes s → Bytes (inverse_sheet w s)
  pub accepted : Accepted w (inverse_sheet w s)
  pub twice : inverse_sheet w (inverse_sheet w s) ≡ s
  pub answer : (b : List ℕ) → run_answer w (inverse_sheet w s) b ≡ run_answer w s b
  pub run : (g : Direction) (b : List ℕ) → run_bytes g w (inverse_sheet w s) b ≡ run_bytes (other g) w s b

abbrev pub SheetsInvert : Type 0
SheetsInvert = (w : ℕ) (s : List ℕ) → Accepted w s → Inverts w s

-- The call refuses a sheet as a run does, over vectors b that have their length: with the same number and offset. 4 comes last, where the run is not refused
pub record RefusesAlike (w : ℕ) (s b out : List ℕ) : Type 0 where
  pub refused : (r : Refusal) (i : ℕ) → run_answer w s b ≡ refused_at r i → inverse_answer w s out ≡ refused_at r i
  pub done : (n : ℕ) → run_answer w s b ≡ Ok n → inverse_answer w s out ≡ room_answer (length s) (length out)

abbrev pub RefusesAsRuns : Type 0
RefusesAsRuns = (w : ℕ) (s b out : List ℕ) → length b ≡ place_count * w → RefusesAlike w s b out

-- A success is of an accepted sheet: it answers the sheet's length, its inverse stands in the first bytes of the output, and each byte behind stays in its place
pub record Written (w : ℕ) (s out : List ℕ) : Type 0 where
  pub accepted : Accepted w s
  pub answer : inverse_answer w s out ≡ Ok (length s)
  pub first : take (length s) (inverse_out w s out) ≡ inverse_sheet w s
  pub behind : drop (length s) (inverse_out w s out) ≡ drop (length s) out

abbrev pub SuccessWrites : Type 0
SuccessWrites = (w : ℕ) (s out : List ℕ) → is_done (inverse_answer w s out) ≡ true → Written w s out
