use mathlib.Core.Path.{refl}
use borrow.Author.Rules.{rules}
use Rattle.hamming.proofs.Counts.{next, end}
use Rattle.distances.proofs.count_records.Goals as goal

pub loop-k-preserved : goal.loop-k-preserved
loop-k-preserved c =
    let a = c.args in
    let i = c.loop-k.invariant in
    (i.0, refl, i.2, next a.records.now a.counts.now c.loop-k.k c.loop-k.counts c.loop-k.sum (search rules) c.record_distance-count.ensures.result_value i.3)

pub returns : goal.returns
returns c =
    let a = c.args in
    let i = c.loop-k.invariant in
    let both = end a.records.now a.counts.now c.loop-k.k c.loop-k.counts c.loop-k.sum (search rules) i.2 i.3 in
    record {
      value = both.0;
      counts_after = both.1;
    }
