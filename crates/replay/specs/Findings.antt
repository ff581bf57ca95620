-- Document 02, Paper 10, in its words: what a replay's answer says. A record is given by the number j of those before it, so it is number suc j, and what it is
-- held against is the state after suc j commands. The statements; proofs/Findings.antt shows them.
use Rattle.std.specs.Prelude.{◌≡◌, true, false, List, [], ◌++◌, ℕ, zero, suc, ◌*◌, ◌^◌, ◌-◌, ◌≤◌, ◌<◌, length, get_or, take, drop, Ok, Err, Some, None}
use Rattle.answer.specs.Answer.{refused_at}
use Rattle.answer.specs.Refuse.{is_done}
use Rattle.invertible.specs.RoundTrip.{Forward}
use Rattle.memory.specs.Bytes.{Bytes}
use Rattle.sheet.specs.Read.{place_count}
use Rattle.sheet.specs.Sheet.{plan_of, command_count}
use Rattle.sheet.specs.Effect.{at}
use Rattle.sheet.specs.Run.{steps, vectors_from, vectors_in, vector_bytes, run_answer, run_bytes}
use Rattle.shuffle.specs.Shuffle.{record_length}
use Rattle.replay.specs.declared.Finding.{Finding}
use Rattle.replay.specs.ReplayAnswer.{ReplayAnswer, false_record}
use Rattle.replay.specs.Replay.{state_by, record_count, first_false, replay_tests, replay_answer, is_refused}

-- the bytes of a record, and word n of its Vp
abbrev pub record_bytes : ℕ → List ℕ → ℕ → List ℕ
record_bytes w r j = take (record_length w) (drop (j * record_length w) r)

abbrev pub record_word : ℕ → List ℕ → ℕ → ℕ → ℕ → ℕ
record_word w r j p n = get_or (at (vectors_from w place_count r (j * record_length w)) p) n 0

-- .. and those of the state after its command
abbrev pub state_bytes : ℕ → List ℕ → List ℕ → ℕ → List ℕ
state_bytes w s b j = vector_bytes w (state_by w s b (suc j)).vectors

abbrev pub state_word : ℕ → List ℕ → List ℕ → ℕ → ℕ → ℕ → ℕ
state_word w s b j p n = get_or (at (state_by w s b (suc j)).vectors p) n 0

-- a record is true if it is the bytes of that state
abbrev pub IsTrue : ℕ → List ℕ → List ℕ → List ℕ → ℕ → Type 0
IsTrue w s b r j = record_bytes w r j ≡ state_bytes w s b j

abbrev pub AllTrue : ℕ → List ℕ → List ℕ → List ℕ → Type 0
AllTrue w s b r = (j : ℕ) → j < record_count w r → IsTrue w s b r j

-- The record with j before it is false and all before it are true; and f has the offset of its command, which is the sheet's command with j before it, the
-- first word that differs, by place and then by word number, what the record has there, and what the state has: words of w bits
pub record Named (w : ℕ) (s b r : List ℕ) (j : ℕ) (f : Finding) : Type 0 where
  pub within : j < record_count w r
  pub not-true : IsTrue w s b r j → ⊥
  pub before : (i : ℕ) → i < j → IsTrue w s b r i
  pub command : j < command_count w s
  pub offset : f.offset ≡ get_or (plan_of w s).offsets j (length s)
  pub place : f.place < 8
  pub word : f.word < 8
  pub found : f.found ≡ record_word w r j f.place f.word
  pub expected : f.expected ≡ state_word w s b j f.place f.word
  pub found_bits : f.found < 2 ^ w
  pub expected_bits : f.expected < 2 ^ w
  pub differ : f.found ≡ f.expected → ⊥
  pub places_before : (p n : ℕ) → p < f.place → n < 8 → record_word w r j p n ≡ state_word w s b j p n
  pub words_before : (n : ℕ) → n < f.word → record_word w r j f.place n ≡ state_word w s b j f.place n

-- what each answer says
abbrev pub Says : ℕ → List ℕ → List ℕ → List ℕ → ReplayAnswer → Type 0
Says w s b r (Ok None) = AllTrue w s b r
Says w s b r (Ok (Some found)) = (j : ℕ) × (found.number ≡ suc j) × Named w s b r j found.finding
Says w s b r (Err err) = replay_tests w s b r ≡ Err err

-- The answer says what is so. Unless it is a refusal, it is that every record holds exactly when all are true: only then by `says`, and always then by
-- `holds_if`
pub record Finds (w : ℕ) (s b r : List ℕ) : Type 0 where
  pub says : Says w s b r (replay_answer w s b r)
  pub holds_if : is_refused (replay_answer w s b r) ≡ false → AllTrue w s b r → replay_answer w s b r ≡ Ok None

abbrev pub ReplaysFind : Type 0
ReplaysFind = (w : ℕ) (s b r : List ℕ) → Bytes s → Bytes b → Bytes r → Finds w s b r

-- Whether a record is false depends on no other record. Where the one with j before it is the first false one, the records q are the same but for that one,
-- and it is true among them: then what is found in q is the first false one of those behind it in r, or that they hold
abbrev pub RecordsApart : Type 0
RecordsApart = (w : ℕ) (s b r q : List ℕ) (j : ℕ) (f : Finding) → Bytes s → Bytes b → Bytes r
    → replay_answer w s b r ≡ Ok (Some (false_record (suc j) f))
    → length q ≡ length r → ((i : ℕ) → (i ≡ j → ⊥) → record_bytes w q i ≡ record_bytes w r i) → IsTrue w s b q j
    → replay_answer w s b q ≡ first_false (record_count w r - suc j) w s b r (suc j)

-- the n records that a run itself leaves, one for each command, from the one on that has k before it
abbrev pub recording_from : ℕ → ℕ → List ℕ → List ℕ → ℕ → List ℕ
recording_from zero w s b k = []
recording_from (suc n) w s b k = state_bytes w s b k ++ recording_from n w s b (suc k)

-- .. hold, from the first on: all, or fewer, of a run that is not refused
abbrev pub RecordingsHold : Type 0
RecordingsHold = (w : ℕ) (s b : List ℕ) (n : ℕ) → Bytes s → Bytes b → is_done (run_answer w s b) ≡ true → n ≤ command_count w s
    → replay_answer w s b (recording_from n w s b 0) ≡ Ok None

-- The states are the forward run's own: after k commands they are those of a run over the sheet's first k commands, and after all of them the whole run's
pub record StatesOfRun (w : ℕ) (s b : List ℕ) : Type 0 where
  pub some : (k : ℕ) → (state_by w s b k).vectors ≡ steps Forward w s (take k (plan_of w s).offsets) (vectors_in w b)
  pub all : vector_bytes w (state_by w s b (command_count w s)).vectors ≡ run_bytes Forward w s b

abbrev pub StatesAreRuns : Type 0
StatesAreRuns = (w : ℕ) (s b : List ℕ) → is_done (run_answer w s b) ≡ true → StatesOfRun w s b
