use native.Mathlib.Omega.{arith}
use borrow.Author.Rules.{rules}
use Rattle.digest.proofs.BitPadding.{marked_shifts}
use Rattle.padding.proofs.marked.Goals as goal

pub overflow_cast-result : goal.overflow_cast-result
overflow_cast-result c = omega (arith, (marked_shifts c.args.last c.args.count (search rules) (search rules)).1)

pub returns : goal.returns
returns c = (marked_shifts c.args.last c.args.count (search rules) (search rules)).0
