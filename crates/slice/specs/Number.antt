-- Document 02, Paper 5: a slice's answer as one number for C, where a success tells two.
use Rattle.std.specs.Prelude.{ℕ, ◌+◌, ◌*◌, ◌^◌, Ok, Err}
use Rattle.answer.specs.Answer.{Answer, refused_at}
use Rattle.answer.specs.Number.{number_of}
use Rattle.slice.specs.SliceAnswer.{SliceAnswer, reaching}

-- the answer as other calls have it: a success is 2^16 times the units plus the offset reached
abbrev pub answer_of : SliceAnswer → Answer
answer_of (Ok p) = Ok (p.units * 2 ^ 16 + p.offset)
answer_of (Err err) = Err err

abbrev pub slice_number : SliceAnswer → ℕ
slice_number a = number_of (answer_of a)
