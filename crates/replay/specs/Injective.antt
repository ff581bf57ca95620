-- C tells a replay's answers by their numbers, with the finding beside a false record. The statements; proofs/Injective.antt shows them.
use Rattle.std.specs.Prelude.{◌≡◌, Bool, true, false, List, ℕ, ◌^◌, ◌≤◌, ◌<◌, eqb, leb, Ok, Err, Some, None}
use Rattle.replay.specs.ReplayAnswer.{ReplayAnswer, false_record}
use Rattle.answer.specs.Answer.{refused_at}
use Rattle.replay.specs.Replay.{replay_answer, is_refused}
use Rattle.replay.specs.Number.{replay_number, finding_after}

abbrev pub is_holds : ReplayAnswer → Bool
is_holds (Ok None) = true
is_holds (Ok (Some found)) = false
is_holds (Err err) = false

-- the answers that there are: a record's number is from 1, and a sheet has 2,048 commands at most
abbrev pub ReplayFits : ReplayAnswer → Type 0
ReplayFits (Ok None) = Unit {0}
ReplayFits (Ok (Some found)) = (1 ≤ found.number) × (found.number ≤ 2048)
ReplayFits (Err err) = err.offset < 2 ^ 32

-- every answer of a replay is one of these
abbrev pub EveryReplayFits : Type 0
EveryReplayFits = (w : ℕ) (s b r : List ℕ) → ReplayFits (replay_answer w s b r)

-- a number of 0 says that every record holds, one of 2^32 or more is a refusal; and no two answers share their number and what they leave in a finding
pub record ReplayNumbersInjective : Type 0 where
  pub holding : (a : ReplayAnswer) → ReplayFits a → is_holds a ≡ eqb (replay_number a) 0
  pub refusal : (a : ReplayAnswer) → ReplayFits a → is_refused a ≡ leb (2 ^ 32) (replay_number a)
  pub answer : (a b : ReplayAnswer) (old : List ℕ) → ReplayFits a → ReplayFits b → replay_number a ≡ replay_number b
      → finding_after a old ≡ finding_after b old → a ≡ b
