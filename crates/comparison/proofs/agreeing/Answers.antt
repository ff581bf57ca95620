use Rattle.comparison.proofs.Search.{one_more, differs, all_agree}
use Rattle.comparison.proofs.agreeing.Goals as goal

pub returns-then-word_at : goal.returns-then-word_at
returns-then-word_at c =
    let a = c.args in
    differs a.width a.records.now a.from a.state.now c.loop-i.i c.loop-i-test.true c.word_at.ensures c.word_at-in-loop-i.ensures c.loop-i.invariant c.if-word_at.true

pub loop-i-preserved : goal.loop-i-preserved
loop-i-preserved c =
    let a = c.args in
    one_more a.width a.records.now a.from a.state.now c.loop-i.i c.loop-i-test.true c.word_at.ensures c.word_at-in-loop-i.ensures c.loop-i.invariant c.if-word_at.false

pub returns : goal.returns
returns c = let a = c.args in all_agree a.width a.records.now a.from a.state.now c.loop-i.i c.loop-i-test.false c.loop-i.invariant
