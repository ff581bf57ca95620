-- Document 01, "The load sheet": what each command does to the vectors.
use Rattle.std.specs.Prelude.{List, [], ℕ, ◌/◌, get_or, set}
use Rattle.memory.specs.Bytes.{words_at}
use Rattle.quasigroup.specs.Tables.{width_of}
use Rattle.quasigroup.specs.Product.{product}
use Rattle.quasigroup.specs.Division.{left_division, right_division}
use Rattle.quasigroup.specs.Vector.{reversed}
use Rattle.sheet.specs.declared.Command.{Command}
use Rattle.sheet.specs.declared.Command.TheVariants.{Lmul, Rmul, Ldiv, Rdiv, Swap, Flip, Kmul, Kdiv}

-- Vi
abbrev pub at : List (List ℕ) → ℕ → List ℕ
at v i = get_or v i []

-- the vector of w bytes at offset i
abbrev pub vector_at : ℕ → List ℕ → ℕ → List ℕ
vector_at w s i = words_at (w / 8) 8 s i

-- the vectors v after a command of the sheet s, at width w
abbrev pub effect : ℕ → List ℕ → Command → List (List ℕ) → List (List ℕ)
effect w s (Lmul p) v = set v p.d (product (width_of w) (at v p.s) (at v p.d))
effect w s (Rmul p) v = set v p.d (product (width_of w) (at v p.d) (at v p.s))
effect w s (Ldiv p) v = set v p.d (left_division (width_of w) (at v p.s) (at v p.d))
effect w s (Rdiv p) v = set v p.d (right_division (width_of w) (at v p.d) (at v p.s))
effect w s (Swap p) v = set (set v p.d (at v p.s)) p.s (at v p.d)
effect w s (Flip d) v = set v d (reversed (at v d))
effect w s (Kmul d k) v = set v d (product (width_of w) (vector_at w s k) (at v d))
effect w s (Kdiv d k) v = set v d (left_division (width_of w) (vector_at w s k) (at v d))

-- the command that undoes a command: 01 and 03 undo each other, so do 02 and 04, and 07 and 08; 05 and 06 undo themselves
abbrev pub undone : Command → Command
undone (Lmul p) = Ldiv p
undone (Rmul p) = Rdiv p
undone (Ldiv p) = Lmul p
undone (Rdiv p) = Rmul p
undone (Swap p) = Swap p
undone (Flip d) = Flip d
undone (Kmul d k) = Kdiv d k
undone (Kdiv d k) = Kmul d k
