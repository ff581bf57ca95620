-- Document 02, Paper 13, by places: where each byte of each record stands after a success. The statements; proofs/Places.antt shows them.
use Rattle.std.specs.Prelude.{◌≡◌, true, List, ℕ, ◌+◌, ◌*◌, ◌/◌, ◌<◌, length, get_or}
use Rattle.answer.specs.Refuse.{is_done}
use Rattle.quasigroup.specs.Tables.{known_width}
use Rattle.shuffle.specs.Shuffle.{record_length, record_words, records_answer, shuffle_out, unshuffle_out}

-- a record is its words, each of w / 8 bytes
abbrev pub RecordsAreWords : Type 0
RecordsAreWords = (w : ℕ) → known_width w ≡ true → record_words * (w / 8) ≡ record_length w

-- Byte j of word i of record r stands at i * (w / 8) + j of that record, and shuffled at j * 64 + i, 64 being `record_words`
pub record ByPlace (w : ℕ) (s out : List ℕ) : Type 0 where
  pub shuffle : (r i j : ℕ) → r < length s / record_length w → i < record_words → j < w / 8
      → get_or (shuffle_out w s out) (r * record_length w + (j * 64 + i)) 0 ≡ get_or s (r * record_length w + (i * (w / 8) + j)) 0
  pub unshuffle : (r i j : ℕ) → r < length s / record_length w → i < record_words → j < w / 8
      → get_or (unshuffle_out w s out) (r * record_length w + (i * (w / 8) + j)) 0 ≡ get_or s (r * record_length w + (j * 64 + i)) 0

abbrev pub EveryByteByPlace : Type 0
EveryByteByPlace = (w : ℕ) (s out : List ℕ) → is_done (records_answer w (length s) (length out)) ≡ true → ByPlace w s out
