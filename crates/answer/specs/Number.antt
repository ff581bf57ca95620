-- Document 01, "What each operation refuses", and for 12 and 13, 14, 15, 16, 17 and 19 document 02, Papers 2, 5, 7, 13, 10 and 14: the number of each refusal,
-- and an answer as one number for C.
use Rattle.std.specs.Prelude.{ℕ, ◌+◌, ◌*◌, ◌^◌, Ok, Err}
use Rattle.answer.specs.Answer.{Answer, refused_at}
use Rattle.answer.specs.declared.Refusal.{Refusal}
use Rattle.answer.specs.declared.Refusal.TheVariants.{Size, State, Length, Output, Width, Operand, Sheet, Opcode, Truncated, Place, SamePlace}
use Rattle.answer.specs.declared.Refusal.TheVariants.{MessageCount, JoinedLength, Start, BitCount, Records, RecordCount, Pairs}

abbrev pub refusal_number : Refusal → ℕ
refusal_number Size = 1
refusal_number State = 2
refusal_number Length = 3
refusal_number Output = 4
refusal_number Width = 5
refusal_number Operand = 6
refusal_number Sheet = 7
refusal_number Opcode = 8
refusal_number Truncated = 9
refusal_number Place = 10
refusal_number SamePlace = 11
refusal_number MessageCount = 12
refusal_number JoinedLength = 13
refusal_number Start = 14
refusal_number BitCount = 15
refusal_number Records = 16
refusal_number RecordCount = 17
refusal_number Pairs = 19

-- a success's own number, or 2^32 times the refusal number plus the offset
abbrev pub number_of : Answer → ℕ
number_of (Ok n) = n
number_of (Err err) = refusal_number err.refusal * 2 ^ 32 + err.offset

-- The same for a call whose success can pass 2^32, as a total of bytes can: a refusal has bit 63 set besides.
abbrev pub marked_number : Answer → ℕ
marked_number (Ok n) = n
marked_number (Err err) = 2 ^ 63 + number_of (Err err)
