use borrow.Author.Rules.{rules}
use lib.Seq.{paste-zero}
use Rattle.memory.proofs.Copy.{copied_more, copied_all}
use Rattle.memory.proofs.copy_at.Goals as goal

pub loop-i-init : goal.loop-i-init
loop-i-init c = (search rules, search rules, paste-zero c.args.dst.now c.args.at c.args.src.now)

pub loop-i-preserved : goal.loop-i-preserved
loop-i-preserved c = (search rules, search rules, copied_more _ _ _ c.loop-i.invariant.1 _ _ c.loop-i.invariant.2 (search rules))

pub returns : goal.returns
returns c = let a = c.args in copied_all a.dst.now a.at a.src.now c.loop-i.invariant.1 c.loop-i.dst c.loop-i.i c.loop-i.invariant.2 (search rules) (search rules)
