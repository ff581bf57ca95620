use mathlib.Core.Path.{◌≡◌}
use native.Mathlib.Omega.{arith}
use borrow.Author.Rules.{rules}
use lib.ListN.{length}
use Rattle.digest.proofs.Answers.{known_bound}
use Rattle.hmac.proofs.KeyBlock.{block_most}
use Rattle.hmac.proofs.Tag.{tag_written}
use Rattle.hmac_call.proofs.write_tag.Goals as goal

-- both blocks stand at the front of arrays of 128 bytes, and the inner digest at that of one of 64
pub slice_bounds-inner-end : goal.slice_bounds-inner-end
slice_bounds-inner-end c =
    let l : length c.padded-inner.result ≡ 128 = search rules in
    omega (arith, l, c.block_length-block.ensures, block_most c.args.size)

pub slice_bounds-outer-end : goal.slice_bounds-outer-end
slice_bounds-outer-end c =
    let l : length c.padded-outer.result ≡ 128 = search rules in
    omega (arith, l, c.block_length-block.ensures, block_most c.args.size)

pub slice_bounds-digest-end-4 : goal.slice_bounds-digest-end-4
slice_bounds-digest-end-4 c =
    let l : length c.digest.new.out ≡ 64 = search rules in
    omega (arith, l, known_bound c.args.size c.requires.0)

pub returns : goal.returns
returns c =
    let a = c.args in
    tag_written a.size c.requires.0 a.key.now a.message.now c.requires.1 c.block_length-block.ensures c.key_block-k.result c.key_block-k.ensures
    a.out.now c.requires.2 c.padded-inner.ensures c.padded-outer.ensures c.digest.ensures.out_after c.digest-2.ensures.out_after
