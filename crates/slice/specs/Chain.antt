-- Document 02, Paper 5: a chain of slices over one sheet at one width, from offset 0 on, each at the offset that the one before reached and with the vectors
-- that it left. The statements are at the end; proofs/Chain.antt shows them.
use Rattle.std.specs.Prelude.{◌≡◌, true, false, ℕ, ◌+◌, ◌≤◌, length, Ok, Err}
use mathlib.Core.List.{List, [], ◌∷◌, sum}
use Rattle.answer.specs.Answer.{refused_at}
use Rattle.answer.specs.declared.Refusal.{Refusal}
use Rattle.answer.specs.Refuse.{is_done}
use Rattle.invertible.specs.Invertible.{stepped, outputs, Each}
use Rattle.invertible.specs.RoundTrip.{Forward, Backward}
use Rattle.memory.specs.Bytes.{Bytes}
use Rattle.sheet.specs.Sheet.{command_count}
use Rattle.sheet.specs.Run.{run_answer, run_bytes}
use Rattle.sheet.specs.Start.{is_start}
use Rattle.slice.specs.SliceAnswer.{SliceAnswer, reaching}
use Rattle.slice.specs.Slice.{slice_answer, slice_bytes}
use Rattle.slice.specs.Injective.{is_reached}

-- where the next slice starts, the sum of the units so far, and the lent bytes
pub record ChainState : Type 0 where
  pub offset : ℕ
  pub units : ℕ
  pub bytes : List ℕ

abbrev pub chain_start : List ℕ → ChainState
chain_start b = record { offset = 0; units = 0; bytes = b }

-- what the next slice answers, with budget k
abbrev pub next_answer : ℕ → List ℕ → ℕ → ChainState → SliceAnswer
next_answer w s k c = slice_answer k w s c.offset c.bytes

-- .. and the state after it, with the bytes b that it left: a refused slice tells no offset, so that the next one starts where it did
abbrev pub linked : SliceAnswer → List ℕ → ChainState → ChainState
linked (Ok p) b c = record { offset = p.offset; units = c.units + p.units; bytes = b }
linked (Err err) b c = record { offset = c.offset; units = c.units; bytes = b }

abbrev pub next_state : ℕ → List ℕ → ℕ → ChainState → ChainState
next_state w s k c = linked (next_answer w s k c) (slice_bytes k w s c.offset c.bytes) c

-- the state after a slice for each of the budgets l, for none the start, and what each of them answers
abbrev pub chain : ℕ → List ℕ → List ℕ → List ℕ → ChainState
chain w s l b = stepped (next_state w s) l (chain_start b)

abbrev pub chain_answers : ℕ → List ℕ → List ℕ → List ℕ → List SliceAnswer
chain_answers w s l b = outputs (next_state w s) (next_answer w s) l (chain_start b)

-- the sum of the budgets
abbrev pub total_budget : List ℕ → ℕ
total_budget l = sum ◌+◌ 0 l

-- a success whose offset is a start
abbrev pub ReachesStart : ℕ → List ℕ → SliceAnswer → Type 0
ReachesStart w s (Ok p) = is_start w s p.offset ≡ true
ReachesStart w s (Err err) = ⊥

-- Two slices from any state, the second from the offset that the first reached and over the bytes that it left, leave what one with both budgets leaves. The
-- first is refused, and then so is the second, with the same answer; or both reach a start
pub data BothAnswer (w : ℕ) (s : List ℕ) (first second : SliceAnswer) : Type 0 where
  refused : second ≡ first → is_reached first ≡ false → BothAnswer w s first second
  reached : ReachesStart w s first → ReachesStart w s second → BothAnswer w s first second

pub record TwoSlices (w : ℕ) (s : List ℕ) (j k : ℕ) (c : ChainState) : Type 0 where
  pub state : next_state w s k (next_state w s j c) ≡ next_state w s (j + k) c
  pub answers : BothAnswer w s (next_answer w s j c) (next_answer w s k (next_state w s j c))

abbrev pub CallsCompose : Type 0
CallsCompose = (w : ℕ) (s : List ℕ) (j k : ℕ) (c : ChainState) → Bytes s → Bytes c.bytes → TwoSlices w s j k c

-- every slice is refused with r at i, and nothing moves
pub record ChainRefused (w : ℕ) (s b l : List ℕ) (r : Refusal) (i : ℕ) : Type 0 where
  pub answers : Each (λ a. a ≡ refused_at r i) (chain_answers w s l b)
  pub state : chain w s l b ≡ chain_start b

-- No slice is refused, and each reaches a start. The chain is at the sheet's end exactly when its budgets sum to at least the number of commands; then the
-- units and the bytes are those of the whole run, which answers n. How the sum is cut makes no difference: one slice with all of it leaves the same
pub record ChainDone (w : ℕ) (s b l : List ℕ) (n : ℕ) : Type 0 where
  pub answers : Each (ReachesStart w s) (chain_answers w s l b)
  pub ends : command_count w s ≤ total_budget l → (chain w s l b).offset ≡ length s
  pub ends_only : (chain w s l b).offset ≡ length s → command_count w s ≤ total_budget l
  pub units : (chain w s l b).offset ≡ length s → (chain w s l b).units ≡ n
  pub bytes : (chain w s l b).offset ≡ length s → (chain w s l b).bytes ≡ run_bytes Forward w s b
  pub uncut : chain w s l b ≡ chain w s (total_budget l ∷ []) b

-- for every width, sheet, lent bytes and list of budgets, by what the whole run answers
pub record ChainsRun : Type 0 where
  pub refused : (w : ℕ) (s b l : List ℕ) (r : Refusal) (i : ℕ) → run_answer w s b ≡ refused_at r i → ChainRefused w s b l r i
  pub done : (w : ℕ) (s b l : List ℕ) → Bytes s → Bytes b → (n : ℕ) → run_answer w s b ≡ Ok n → ChainDone w s b l n

-- the way home of a chain: a backward run of the sheet finds the starting bytes, and answers what the whole run answers
pub record ChainReturns (w : ℕ) (s b l : List ℕ) : Type 0 where
  pub state : run_bytes Backward w s (chain w s l b).bytes ≡ b
  pub same : run_answer w s (chain w s l b).bytes ≡ run_answer w s b

-- .. of every chain that is at the sheet's end, and of every one that is refused
pub record ChainsReturn : Type 0 where
  pub at_end : (w : ℕ) (s b l : List ℕ) → Bytes s → Bytes b → (chain w s l b).offset ≡ length s → ChainReturns w s b l
  pub refused : (w : ℕ) (s b l : List ℕ) → is_done (run_answer w s b) ≡ false → ChainReturns w s b l
