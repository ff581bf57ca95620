-- Document 01, "The lister": what it prints for a sheet, as ASCII bytes.
use Rattle.std.specs.Prelude.{List, [], ◌∷◌, ◌++◌, ℕ, length, Ok, Err, Some, None}
use Rattle.answer.specs.declared.Refusal.{Refusal}
use Rattle.sheet.specs.declared.Places.{Places}
use Rattle.sheet.specs.declared.Command.{Command}
use Rattle.sheet.specs.declared.Command.TheVariants.{Lmul, Rmul, Ldiv, Rdiv, Swap, Flip, Kmul, Kdiv}
use Rattle.sheet.specs.Read.{Read, read_at}
use Rattle.sheet.specs.Sheet.{Outcome, Sound, Faulty, plan_of}
use Rattle.text.specs.Decimal.{decimal, spaced}
use Rattle.text.specs.Label.{labelled, refused}

-- the name of a command
abbrev pub name : Command → List ℕ
name (Lmul p) = 108 ∷ 109 ∷ 117 ∷ 108 ∷ []  -- lmul
name (Rmul p) = 114 ∷ 109 ∷ 117 ∷ 108 ∷ []  -- rmul
name (Ldiv p) = 108 ∷ 100 ∷ 105 ∷ 118 ∷ []  -- ldiv
name (Rdiv p) = 114 ∷ 100 ∷ 105 ∷ 118 ∷ []  -- rdiv
name (Swap p) = 115 ∷ 119 ∷ 97 ∷ 112 ∷ []  -- swap
name (Flip d) = 102 ∷ 108 ∷ 105 ∷ 112 ∷ []  -- flip
name (Kmul d k) = 107 ∷ 109 ∷ 117 ∷ 108 ∷ []  -- kmul
name (Kdiv d k) = 107 ∷ 100 ∷ 105 ∷ 118 ∷ []  -- kdiv

-- d, and s where the command has one
abbrev pub both : Places → List ℕ
both p = spaced p.d ++ spaced p.s

abbrev pub places : Command → List ℕ
places (Lmul p) = both p
places (Rmul p) = both p
places (Ldiv p) = both p
places (Rdiv p) = both p
places (Swap p) = both p
places (Flip d) = spaced d
places (Kmul d k) = spaced d
places (Kdiv d k) = spaced d

-- the line of a command at offset i: its offset, its name and its places
abbrev pub line : ℕ → Command → List ℕ
line i c = decimal i ++ ((32 ∷ name c) ++ (places c ++ (10 ∷ [])))

abbrev pub line_of : ℕ → Read → List ℕ
line_of i (Ok (Some d)) = line i d.command
line_of i (Err r) = []
line_of i (Ok None) = []

-- the lines of the commands at the offsets
abbrev pub lines : ℕ → List ℕ → List ℕ → List ℕ
lines w s [] = []
lines w s (i ∷ l) = line_of i (read_at w s i) ++ lines w s l

-- end, the sheet's length, the number of commands
abbrev pub end_line : ℕ → ℕ → List ℕ
end_line n count = labelled (101 ∷ 110 ∷ 100 ∷ []) n ++ (spaced count ++ (10 ∷ []))

-- refused, the refusal's number, its offset
abbrev pub refused_line : Refusal → ℕ → List ℕ
refused_line r i = refused r ++ (spaced i ++ (10 ∷ []))

-- a sheet s at width w, with the offsets l of its commands
abbrev pub listed : ℕ → List ℕ → List ℕ → Outcome → List ℕ
listed w s l Sound = lines w s l ++ end_line (length s) (length l)
listed w s l (Faulty r i) = refused_line r i

abbrev pub listing : ℕ → List ℕ → List ℕ
listing w s = let p = plan_of w s in listed w s p.offsets p.outcome
