-- Document 01, "The load sheet": the bytes of a command, and a sheet's commands in their order.
use Rattle.std.specs.Prelude.{◌≡◌, ℕ, take, drop, Ok, Err, Some, None}
use mathlib.Core.List.{List, [], ◌∷◌, ◌++◌, flat_map}
use Rattle.sheet.specs.declared.Command.{Command}
use Rattle.sheet.specs.declared.Command.TheVariants.{Lmul, Rmul, Ldiv, Rdiv, Swap, Flip, Kmul, Kdiv}
use Rattle.sheet.specs.declared.Decoded.{Decoded}
use Rattle.sheet.specs.Read.{Read, read_at}
use Rattle.sheet.specs.Sheet.{Sound, plan_of}

-- the w bytes from offset k of the sheet s on: of the vector K, the immediate operand of a command
abbrev pub immediate : ℕ → List ℕ → ℕ → List ℕ
immediate w s k = take w (drop k s)

-- a command of the sheet s in bytes: its opcode, its place or its first place, and then the second place or K
abbrev pub encoded : ℕ → List ℕ → Command → List ℕ
encoded w s (Lmul p) = 1 ∷ p.d ∷ p.s ∷ []
encoded w s (Rmul p) = 2 ∷ p.d ∷ p.s ∷ []
encoded w s (Ldiv p) = 3 ∷ p.d ∷ p.s ∷ []
encoded w s (Rdiv p) = 4 ∷ p.d ∷ p.s ∷ []
encoded w s (Swap p) = 5 ∷ p.d ∷ p.s ∷ []
encoded w s (Flip d) = 6 ∷ d ∷ []
encoded w s (Kmul d k) = 7 ∷ d ∷ immediate w s k
encoded w s (Kdiv d k) = 8 ∷ d ∷ immediate w s k

-- commands of the sheet s in bytes, one after the other
abbrev pub all_encoded : ℕ → List ℕ → List Command → List ℕ
all_encoded w s l = flat_map (encoded w s) l

-- the command that was read, if one was
abbrev pub command_in : Read → List Command
command_in (Ok (Some d)) = d.command ∷ []
command_in (Err r) = []
command_in (Ok None) = []

-- the commands at the offsets
abbrev pub commands_at : ℕ → List ℕ → List ℕ → List Command
commands_at w s l = flat_map (λ i. command_in (read_at w s i)) l

-- a sheet's commands, up to its end or its first fault
abbrev pub commands_of : ℕ → List ℕ → List Command
commands_of w s = commands_at w s (plan_of w s).offsets

-- a sheet is accepted at width w if it has none of the faults 7 to 11
abbrev pub Accepted : ℕ → List ℕ → Type 0
Accepted w s = (plan_of w s).outcome ≡ Sound

-- That these are the bytes which reading reads: at an offset where a command stands, the sheet goes on with that command's bytes and then with what stands
-- behind it; and an accepted sheet is its commands' bytes. proofs/Encoding.antt shows both.
abbrev pub ReadingDecodes : Type 0
ReadingDecodes = (w : ℕ) (s : List ℕ) (i : ℕ) (d : Decoded) → read_at w s i ≡ Ok (Some d) → encoded w s d.command ++ drop d.next s ≡ drop i s

abbrev pub SheetsEncoded : Type 0
SheetsEncoded = (w : ℕ) (s : List ℕ) → Accepted w s → all_encoded w s (commands_of w s) ≡ s
