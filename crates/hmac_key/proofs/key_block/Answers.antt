use native.Mathlib.Omega.{arith}
use Rattle.hmac.proofs.KeyBlock.{block_most}
use Rattle.hmac.proofs.Padded.{copied_block, digest_within, digest_bytes, digest_fits, digested_block}
use Rattle.hmac_key.proofs.key_block.Goals as goal

pub copy_at-requires : goal.copy_at-requires
copy_at-requires c = omega (arith, c.if-key-block.true, c.requires.1, block_most c.args.size)

pub returns-then-key-block : goal.returns-then-key-block
returns-then-key-block c =
    let a = c.args in
    copied_block a.size a.key.now c.requires.0 (omega (arith, c.if-key-block.true, c.requires.1)) c.copy_at.ensures

pub slice_bounds-digest-end-2 : goal.slice_bounds-digest-end-2
slice_bounds-digest-end-2 c =
    let a = c.args in
    digest_within a.size a.key.now c.requires.0 c.requires.2 c.digest.ensures.out_after

pub slice_bounds-copy_at-end-3 : goal.slice_bounds-copy_at-end-3
slice_bounds-copy_at-end-3 c =
    let a = c.args in
    digest_bytes a.size a.key.now c.requires.0 c.requires.2 c.digest.ensures.out_after

pub copy_at-requires-2 : goal.copy_at-requires-2
copy_at-requires-2 c =
    let a = c.args in
    digest_fits a.size a.key.now c.requires.0 c.requires.2 c.digest.ensures.out_after

pub returns : goal.returns
returns c =
    let a = c.args in
    digested_block a.size a.key.now c.requires.0 c.requires.2 c.digest.ensures.out_after (omega (arith, c.if-key-block.false, c.requires.1))
    c.copy_at-2.ensures
