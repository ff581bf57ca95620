use Rattle.memory.specs.Bytes.{words_at}
use Rattle.memory.proofs.Bytes.{words_length}
use Rattle.comparison.proofs.Bits.{no_bits}
use Rattle.comparison.proofs.differing_bits.Goals as goal

pub returns : goal.returns
returns c =
    let x = words_at 8 8 c.args.x.now 0 in
    let y = words_at 8 8 c.args.y.now 0 in
    let e = no_bits x y (words_length 8 8 c.args.x.now 0) (words_length 8 8 c.args.y.now 0) in
    cc
