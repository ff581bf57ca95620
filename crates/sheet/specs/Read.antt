-- Document 01, "The load sheet": reading one command, over the number n of places, which document 02, Paper 8, makes eight. Names that end in `Among` take
-- n first, here and in the files that follow; those at the end of a file are at eight. A sheet is document 01's term for the bytes of a list of commands, a
-- place for the number of one of the vectors.
use Rattle.std.specs.Prelude.{cond, ◌||◌, List, ℕ, ◌+◌, eqb, leb, ltb, length, get_or, Result, Ok, Err, Option, Some, None}
use Rattle.answer.specs.declared.Refusal.{Refusal}
use Rattle.answer.specs.declared.Refusal.TheVariants.{Opcode, Truncated, Place, SamePlace}
use Rattle.sheet.specs.declared.Places.{Places}
use Rattle.sheet.specs.declared.Decoded.{Decoded}
use Rattle.sheet.specs.declared.Command.{Command}
use Rattle.sheet.specs.declared.Command.TheVariants.{Lmul, Rmul, Ldiv, Rdiv, Swap, Flip, Kmul, Kdiv}
use Rattle.sheet.specs.Units.{units}

-- the number of vectors: V0 to V7
abbrev pub place_count : ℕ
place_count = 8

-- the bytes that a command takes at width w, by its opcode b: 01 d s to 05 d s; 06 d; 07 d K and 08 d K, where K takes w bytes
abbrev pub size_of : ℕ → ℕ → ℕ
size_of w b = cond (ltb b 6) 3 (cond (eqb b 6) 2 (w + 2))

-- the command of two places with opcode b, 01 to 05
abbrev pub two_place_command : ℕ → Places → Command
two_place_command b p =
    cond (eqb b 1) (Lmul p)
    (cond (eqb b 2) (Rmul p)
    (cond (eqb b 3) (Ldiv p)
    (cond (eqb b 4) (Rdiv p)
    (Swap p))))

-- the command of one place with opcode b, 06 to 08; K stands at offset k
abbrev pub one_place_command : ℕ → ℕ → ℕ → Command
one_place_command b d k = cond (eqb b 6) (Flip d) (cond (eqb b 7) (Kmul d k) (Kdiv d k))

-- what stands at an offset of a sheet: a command, nothing at the sheet's end, or a fault
abbrev pub Read : Type 0
Read = Result (Option Decoded) Refusal

-- a command that was read, with the offset `next` behind it and its units
abbrev pub got : Command → ℕ → Read
got c next = Ok (Some (record { command = c; next = next; units = units c }))

-- a command of two places: both are below n, and they differ
abbrev pub two_places_among : ℕ → ℕ → Places → ℕ → Read
two_places_among n b p next =
    cond (leb n p.d || leb n p.s) (Err Place)
    (cond (eqb p.d p.s) (Err SamePlace)
    (got (two_place_command b p) next))

-- a command of one place
abbrev pub one_place_among : ℕ → ℕ → ℕ → ℕ → ℕ → Read
one_place_among n b d k next = cond (leb n d) (Err Place) (got (one_place_command b d k) next)

-- what stands at offset i of the sheet s, with opcode b: its end; 8, no opcode; 9, the sheet ends inside the command; 10 and 11 by the places
abbrev pub read_with : ℕ → ℕ → List ℕ → ℕ → ℕ → Read
read_with n w s i b =
    cond (leb (length s) i) (Ok None)
    (cond (eqb b 0 || ltb 8 b) (Err Opcode)
    (cond (ltb (length s) (i + size_of w b)) (Err Truncated)
    (cond (ltb b 6) (two_places_among n b (record { d = get_or s (i + 1) 0; s = get_or s (i + 2) 0 }) (i + size_of w b))
    (one_place_among n b (get_or s (i + 1) 0) (i + 2) (i + size_of w b)))))

unfoldable pub read_among : ℕ → ℕ → List ℕ → ℕ → Read
read_among n w s i = read_with n w s i (get_or s i 0)

-- among the eight
abbrev pub two_places : ℕ → Places → ℕ → Read
two_places b p next = two_places_among place_count b p next

abbrev pub one_place : ℕ → ℕ → ℕ → ℕ → Read
one_place b d k next = one_place_among place_count b d k next

abbrev pub read_at : ℕ → List ℕ → ℕ → Read
read_at w s i = read_among place_count w s i
