use borrow.Author.Rules.{rules}
use Rattle.hamming.proofs.Words as words
use Rattle.distances.proofs.word_distance.Goals as goal

pub returns : goal.returns
returns c =
    let a = c.args in
    let both = words.word_distance 8 a.s.now a.at c.load-x.result c.load-y.result (search rules) (search rules) c.load-x.ensures.result_value c.load-y.ensures.result_value in
    record {
      result_value = both.0;
      upper_bound = both.1;
    }
