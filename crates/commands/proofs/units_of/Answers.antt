use mathlib.Core.Path.{ap, sym}
use Rattle.sheet.specs.Units.{units}
use Rattle.commands.proofs.units_of.Goals as goal

pub returns-in-Lmul : goal.returns-in-Lmul
returns-in-Lmul c = ap units (sym c.in-Lmul.is)

pub returns-in-Rmul : goal.returns-in-Rmul
returns-in-Rmul c = ap units (sym c.in-Rmul.is)

pub returns-in-Ldiv : goal.returns-in-Ldiv
returns-in-Ldiv c = ap units (sym c.in-Ldiv.is)

pub returns-in-Rdiv : goal.returns-in-Rdiv
returns-in-Rdiv c = ap units (sym c.in-Rdiv.is)

pub returns-in-Swap : goal.returns-in-Swap
returns-in-Swap c = ap units (sym c.in-Swap.is)

pub returns-in-Flip : goal.returns-in-Flip
returns-in-Flip c = ap units (sym c.in-Flip.is)

pub returns-in-Kmul : goal.returns-in-Kmul
returns-in-Kmul c = ap units (sym c.in-Kmul.is)

pub returns-in-Kdiv : goal.returns-in-Kdiv
returns-in-Kdiv c = ap units (sym c.in-Kdiv.is)
