-- Document 02, Paper 3: what counts as work. A unit is its term for one product or one division; swap and flip count nothing.
use Rattle.std.specs.Prelude.{ℕ}
use Rattle.sheet.specs.declared.Command.{Command}
use Rattle.sheet.specs.declared.Command.TheVariants.{Lmul, Rmul, Ldiv, Rdiv, Swap, Flip, Kmul, Kdiv}

-- the units of a command
abbrev pub units : Command → ℕ
units (Lmul p) = 1
units (Rmul p) = 1
units (Ldiv p) = 1
units (Rdiv p) = 1
units (Swap p) = 0
units (Flip d) = 0
units (Kmul d k) = 1
units (Kdiv d k) = 1
