use Rattle.std.proofs.Common.{ℕ, ◌*◌, ◌<◌, sym, ◌∙◌, arith}
use Rattle.std.specs.Slice.Iter.{chunks_exact_rest}
use Rattle.digest.specs.Step.{step}
use Rattle.digest.proofs.Blocks.{compressed_turn, compressed_short}
use Rattle.block.proofs.steps.Goals as goal

pub loop-m-preserved : goal.loop-m-preserved
loop-m-preserved g c =
    let B : ℕ = 16 * g.U.LentWord.BYTES in
    let pos : 0 < B = omega (arith, g.met.U.Unsigned.some_bits, g.met.U.LentWord.bits_of_bytes) in
    let i = c.loop-m.invariant in
    let n = c.in-Some.ensures.steps in
    record {
      size = n.0 ∙ i.size;
      same_end =
          compressed_turn B pos (step g.U.Width.tables) c.loop-m.q (chunks_exact_rest c.loop-m.m-iterator) c.in-Some.m.now (chunks_exact_rest c.next.new.self)
          n.1.0 (n.1.1 ∙ i.size) c.step-q.ensures
          ∙ i.same_end;
    }

pub returns : goal.returns
returns g c =
    let B : ℕ = 16 * g.U.LentWord.BYTES in
    let pos : 0 < B = omega (arith, g.met.U.Unsigned.some_bits, g.met.U.LentWord.bits_of_bytes) in
    let i = c.loop-m.invariant in
    let n = c.in-None.ensures.steps in
    sym (compressed_short B pos (step g.U.Width.tables) c.loop-m.q (chunks_exact_rest c.loop-m.m-iterator) (omega (arith, n.1.0))) ∙ i.same_end
