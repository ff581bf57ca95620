use Rattle.std.proofs.Common.{◌≡◌, ◌*◌}
use Rattle.std.specs.Slice.Iter.{chunks_exact_rest, chunks_exact_size}
use Rattle.digest.specs.Blocks.{compressed}
use Rattle.digest.specs.Step.{step}
use Rattle.block.proofs.steps.Given as goal

-- what is left leads to the same pipe
abbrev pub invariant-loop-m : goal.invariant-loop-m
invariant-loop-m g l =
    record {
      size : chunks_exact_size l.m-iterator ≡ 16 * g.U.LentWord.BYTES;
      same_end : compressed (16 * g.U.LentWord.BYTES) (step g.U.Width.tables) l.q (chunks_exact_rest l.m-iterator)
          ≡ compressed (16 * g.U.LentWord.BYTES) (step g.U.Width.tables) l.fn.p l.s;
    }
