-- Document 02, Paper 13: what a success writes, no records, records cut between two of them, and that either way after the other, at one width, returns the
-- bytes given. The statements; proofs/RoundTrip.antt shows them.
use Rattle.std.specs.Prelude.{◌≡◌, true, List, [], ◌++◌, ℕ, ◌%◌, length, take, drop, Ok}
use Rattle.answer.specs.Refuse.{is_done, outcome}
use Rattle.quasigroup.specs.Tables.{known_width}
use Rattle.shuffle.specs.Shuffle.{record_length, shuffled_record, unshuffled_record, all_records, records_answer, records_out}

-- ---- what is written, f being one of both ways

-- A success answers the length written, which is that of the records; what f makes of them stands in the first bytes, and each byte behind stays in its place
pub record Written (f : ℕ → List ℕ → List ℕ) (w : ℕ) (s out : List ℕ) : Type 0 where
  pub answer : records_answer w (length s) (length out) ≡ Ok (length s)
  pub size : length (records_out f w s out) ≡ length out
  pub first : take (length s) (records_out f w s out) ≡ all_records f w s
  pub behind : drop (length s) (records_out f w s out) ≡ drop (length s) out

-- no records is fine: the answer is 0, and nothing is written
pub record NothingWritten (f : ℕ → List ℕ → List ℕ) (w : ℕ) (out : List ℕ) : Type 0 where
  pub answer : records_answer w 0 (length out) ≡ Ok 0
  pub bytes : records_out f w [] out ≡ out

-- each record is written by itself, so that records may be cut between two of them
abbrev pub Apart : (ℕ → List ℕ → List ℕ) → ℕ → List ℕ → List ℕ → Type 0
Apart f w a b = length a % record_length w ≡ 0 → all_records f w (a ++ b) ≡ all_records f w a ++ all_records f w b

pub record Writes (f : ℕ → List ℕ → List ℕ) : Type 0 where
  pub success : (w : ℕ) (s out : List ℕ) → is_done (records_answer w (length s) (length out)) ≡ true → Written f w s out
  pub nothing : (w : ℕ) (out : List ℕ) → known_width w ≡ true → NothingWritten f w out
  pub apart : (w : ℕ) (a b : List ℕ) → known_width w ≡ true → Apart f w a b

pub record BothWrite : Type 0 where
  pub shuffled : Writes shuffled_record
  pub unshuffled : Writes unshuffled_record

-- ---- one way and then the other: f, and then g

-- whole records keep their length, and are there again
pub record Restored (f g : ℕ → List ℕ → List ℕ) (w : ℕ) (s : List ℕ) : Type 0 where
  pub size : length (all_records f w s) ≡ length s
  pub bytes : all_records g w (all_records f w s) ≡ s

-- After a success over the output `out`, the other call on the bytes that were written, over any output `next`: it answers what it would answer to the records
-- themselves, so that only too short an output is refused, and returns them
pub record CallsRestore (f g : ℕ → List ℕ → List ℕ) (w : ℕ) (s out next : List ℕ) : Type 0 where
  pub answer : records_answer w (length (take (length s) (records_out f w s out))) (length next) ≡ records_answer w (length s) (length next)
  pub bytes : records_out g w (take (length s) (records_out f w s out)) next
      ≡ outcome (records_answer w (length s) (length next)) (s ++ drop (length s) next) next

pub record Restores (f g : ℕ → List ℕ → List ℕ) : Type 0 where
  pub records : (w : ℕ) (s : List ℕ) → known_width w ≡ true → length s % record_length w ≡ 0 → Restored f g w s
  pub calls : (w : ℕ) (s out next : List ℕ) → is_done (records_answer w (length s) (length out)) ≡ true → CallsRestore f g w s out next

pub record EitherWayRestores : Type 0 where
  pub shuffled : Restores shuffled_record unshuffled_record
  pub unshuffled : Restores unshuffled_record shuffled_record
