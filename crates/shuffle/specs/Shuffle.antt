-- Document 02, Paper 13: records laid out for the archive, which compression filters call a byte shuffle, and the way back.
use Rattle.std.specs.Prelude.{List, [], ◌++◌, ℕ, zero, suc, ◌*◌, ◌/◌, ◌%◌, eqb, leb, length, take, drop, Ok}
use Rattle.answer.specs.Answer.{Answer}
use Rattle.answer.specs.declared.Refusal.TheVariants.{Width, Records, Output}
use Rattle.answer.specs.Refuse.{unless, outcome}
use Rattle.quasigroup.specs.Tables.{known_width}
use Rattle.shuffle.specs.Transposed.{transposed}

-- a record, as Paper 10 has it, is eight vectors of w bytes
abbrev pub record_length : ℕ → ℕ
record_length w = 8 * w

-- .. of eight words each
abbrev pub record_words : ℕ
record_words = 64

-- As a matrix of bytes it has a row of w / 8 bytes for each word. Shuffled, it is the lowest byte of every word, in word order, then the next byte of every
-- word, up to the highest: its columns
abbrev pub shuffled_record : ℕ → List ℕ → List ℕ
shuffled_record w r = transposed record_words (w / 8) r

-- .. and the way back
abbrev pub unshuffled_record : ℕ → List ℕ → List ℕ
unshuffled_record w r = transposed (w / 8) record_words r

-- what f makes of each of the first n records of s, m bytes each
abbrev pub each_record : (List ℕ → List ℕ) → ℕ → ℕ → List ℕ → List ℕ
each_record f m zero s = []
each_record f m (suc n) s = f (take m s) ++ each_record f m n (drop m s)

-- .. of each record of s
abbrev pub all_records : (ℕ → List ℕ → List ℕ) → ℕ → List ℕ → List ℕ
all_records f w s = each_record (f w) (record_length w) (length s / record_length w) s

abbrev pub shuffled : ℕ → List ℕ → List ℕ
shuffled w s = all_records shuffled_record w s

abbrev pub unshuffled : ℕ → List ℕ → List ℕ
unshuffled w s = all_records unshuffled_record w s

-- What both calls answer for m bytes of records and an output of n: 5, the width is not 32 or 64; 16, m is no multiple of a record's length; 4, the output is
-- shorter than the input; or m
abbrev pub records_answer : ℕ → ℕ → ℕ → Answer
records_answer w m n =
    unless (known_width w) Width
    (unless (eqb (m % record_length w) 0) Records
    (unless (leb m n) Output
    (Ok m)))

-- The output after a call that writes what f makes of each record of s: that in its first bytes and those behind as they were, or, after a refusal, all
-- as it was
abbrev pub records_out : (ℕ → List ℕ → List ℕ) → ℕ → List ℕ → List ℕ → List ℕ
records_out f w s out = outcome (records_answer w (length s) (length out)) (all_records f w s ++ drop (length s) out) out

abbrev pub shuffle_out : ℕ → List ℕ → List ℕ → List ℕ
shuffle_out w s out = records_out shuffled_record w s out

abbrev pub unshuffle_out : ℕ → List ℕ → List ℕ → List ℕ
unshuffle_out w s out = records_out unshuffled_record w s out
