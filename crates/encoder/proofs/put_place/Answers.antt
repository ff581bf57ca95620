use mathlib.Core.Path.{ap}
use native.Mathlib.Numerals.{add-one}
use native.Mathlib.Omega.{arith}
use lib.ListN.{set, length-set}
use Rattle.encoder.proofs.put_place.Goals as goal

pub bounds-out-i : goal.bounds-out-i
bounds-out-i c = let a = c.args in omega (arith, length-set a.out.now a.at a.opcode)

pub returns : goal.returns
returns c = let a = c.args in ap (λ i. set (set a.out.now a.at a.opcode) i a.d) (add-one a.at)
