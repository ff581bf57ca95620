use Rattle.std.proofs.Common.{rules}
use Rattle.halves.proofs.Places.{eight_read}
use Rattle.half.proofs.words.Goals as goal

pub returns : goal.returns
returns g c =
    eight_read c.args.v
    c.index-v-0.result c.index-v-1.result c.index-v-2.result c.index-v-3.result c.index-v-4.result c.index-v-5.result c.index-v-6.result c.index-v-7.result
    (search rules)
