use native.Mathlib.Omega.{arith}
use borrow.Author.Rules.{rules}
use Rattle.hamming.proofs.Words as words
use Rattle.distances.proofs.record_distance.Goals as goal

pub returns : goal.returns
returns c =
    let a = c.args in
    record {
      result_value = words.record_distance a.s.now a.at (search rules) c.word_distance-a.ensures.result_value c.word_distance-b.ensures.result_value c.word_distance-c.ensures.result_value c.word_distance-d.ensures.result_value;
      upper_bound = omega (arith, c.word_distance-a.ensures.upper_bound, c.word_distance-b.ensures.upper_bound, c.word_distance-c.ensures.upper_bound, c.word_distance-d.ensures.upper_bound);
    }
