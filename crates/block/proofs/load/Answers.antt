use Rattle.std.proofs.Common.{◌-◌, ◌*◌, length, take, drop, ap, sym, ◌∙◌}
use Rattle.memory.specs.Bytes.{words_at}
use Rattle.pipe.proofs.Call.{loaded}
use Rattle.block.proofs.WordBytes.{same_bytes}
use Rattle.block.proofs.load.Goals as goal

pub returns : goal.returns
returns g c =
    let s = g.U.Width.tables in
    let k = g.U.LentWord.BYTES in
    let same = same_bytes s g.U.Unsigned.width k g.met.U.Width.same_width g.met.U.LentWord.bits_of_bytes in
    let b = c.args.b.now in
    loaded s b
    (c.load_vector-first.ensures.value ∙ ap (λ n. words_at n 8 b 0) (sym same))
    (c.load_vector-second.ensures.value ∙ ap (λ n. words_at k 8 (take (length b - 8 * n) (drop (8 * n) b)) 0) c.BYTES.ensures
    ∙ ap (λ n. words_at n 8 (take (length b - 8 * n) (drop (8 * n) b)) 0) (sym same))
