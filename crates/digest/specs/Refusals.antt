-- Document 01, "What each operation refuses", and document 02, Paper 7, for the operations of a hash: by numbers alone, each refusal in its order.
use Rattle.std.specs.Prelude.{Bool, ◌||◌, ◌&&◌, ℕ, ◌+◌, ◌-◌, ◌/◌, ◌^◌, eqb, leb, Ok}
use Rattle.answer.specs.Answer.{Answer}
use Rattle.answer.specs.Refuse.{unless}
use Rattle.answer.specs.declared.Refusal.TheVariants.{Size, State, Length, Output, BitCount}

-- the largest total of bytes: its length in bits, with 7 bits more, still fits in 64
abbrev pub limit : ℕ
limit = 2 ^ 61 - 1

-- one of a kind's two sizes
abbrev pub is_size : ℕ → ℕ → ℕ → Bool
is_size small large n = eqb n small || eqb n large

-- Document 01's "in form": what a state of this size and total must be to be fed or finished
abbrev pub in_form : ℕ → ℕ → ℕ → ℕ → Bool
in_form small large n total = is_size small large n && leb total limit

-- opening with size n; a success has the number 0, the total of the starting state
abbrev pub opening : ℕ → ℕ → ℕ → Answer
opening small large n = unless (is_size small large n) Size (Ok 0)

-- feeding len bytes; a success has the new total
abbrev pub feeding : ℕ → ℕ → ℕ → ℕ → ℕ → Answer
feeding small large n total len = unless (in_form small large n total) State (unless (leb (total + len) limit) Length (Ok (total + len)))

-- a digest of size n goes into an output of room bytes; a success has its length
abbrev pub delivering : ℕ → ℕ → Answer
delivering n room = unless (leb (n / 8) room) Output (Ok (n / 8))

-- finishing into an output of room bytes
abbrev pub finishing : ℕ → ℕ → ℕ → ℕ → ℕ → Answer
finishing small large n total room = unless (in_form small large n total) State (delivering n room)

-- finishing with count bits of a last byte
abbrev pub finishing_bits : ℕ → ℕ → ℕ → ℕ → ℕ → ℕ → Answer
finishing_bits small large n total count room = unless (in_form small large n total) State (unless (leb count 7) BitCount (delivering n room))

-- the digest of len bytes in one call
abbrev pub digesting : ℕ → ℕ → ℕ → ℕ → ℕ → Answer
digesting small large n len room = unless (is_size small large n) Size (unless (leb len limit) Length (delivering n room))

-- opening, feeding len bytes and finishing with count bits of a last byte, by a caller who stops at the first refusal
abbrev pub digesting_bits : ℕ → ℕ → ℕ → ℕ → ℕ → ℕ → Answer
digesting_bits small large n len count room =
    unless (is_size small large n) Size (unless (leb len limit) Length (unless (leb count 7) BitCount (delivering n room)))
