-- Document 02, Paper 10, in its words: what a replay refuses. The statement; proofs/Refusals.antt shows it.
use Rattle.std.specs.Prelude.{◌≡◌, true, false, List, [], ℕ, ◌%◌, ◌≤◌, ◌<◌, length, Ok, None}
use Rattle.answer.specs.Answer.{refused_at}
use Rattle.answer.specs.declared.Refusal.{Refusal}
use Rattle.answer.specs.declared.Refusal.TheVariants.{Records, RecordCount}
use Rattle.answer.specs.Refuse.{is_done}
use Rattle.sheet.specs.Sheet.{command_count}
use Rattle.sheet.specs.Run.{run_answer}
use Rattle.shuffle.specs.Shuffle.{record_length}
use Rattle.replay.specs.Replay.{record_count, replay_answer, is_refused}

-- It refuses as a run does. Where a run is not refused: with 16 if the records' length is no multiple of a record's; else with 17 if there are more records
-- than commands; and else not. So fewer records than commands are fine; and of none, every record holds
pub record Refuses (w : ℕ) (s b r : List ℕ) : Type 0 where
  pub as_run : (q : Refusal) (i : ℕ) → run_answer w s b ≡ refused_at q i → replay_answer w s b r ≡ refused_at q i
  pub partial : is_done (run_answer w s b) ≡ true → (length r % record_length w ≡ 0 → ⊥) → replay_answer w s b r ≡ refused_at Records 0
  pub surplus : is_done (run_answer w s b) ≡ true → length r % record_length w ≡ 0 → command_count w s < record_count w r
      → replay_answer w s b r ≡ refused_at RecordCount 0
  pub others : is_done (run_answer w s b) ≡ true → length r % record_length w ≡ 0 → record_count w r ≤ command_count w s
      → is_refused (replay_answer w s b r) ≡ false
  pub none : is_done (run_answer w s b) ≡ true → replay_answer w s b [] ≡ Ok None

abbrev pub ReplaysRefuse : Type 0
ReplaysRefuse = (w : ℕ) (s b r : List ℕ) → Refuses w s b r
