use Rattle.std.proofs.Common.{ap, sym, ◌∙◌}
use Rattle.invertible.specs.RoundTrip.{Backward}
use Rattle.digest.specs.Pipe.{written}
use Rattle.digest.specs.Step.{step}
use Rattle.pipe.proofs.Call.{replaced}
use Rattle.block.proofs.WordBytes.{same_bytes}
use Rattle.block.proofs.step_back_in.Goals as goal

pub returns-clause-moved : goal.returns-clause-moved
unfolding step
returns-clause-moved g c =
    let a = c.args in
    let s = g.U.Width.tables in
    let k = g.U.LentWord.BYTES in
    let same = same_bytes s g.U.Unsigned.width k g.met.U.Width.same_width g.met.U.LentWord.bits_of_bytes in
    replaced s Backward a.m.now a.b.now c.load.ensures c.step_back-p.ensures (c.store.ensures ∙ ap (λ n. written n c.step_back-p.result) (sym same))
