use mathlib.Core.Bool.{true, false}
use Rattle.hmac.proofs.Ended.{block_by_kind}
use Rattle.hmac_check.proofs.block_length.Goals as goal

pub returns-then-is_size : goal.returns-then-is_size
returns-then-is_size c = block_by_kind c.args.size true c.is_size.ensures c.if-is_size.true

pub returns : goal.returns
returns c = block_by_kind c.args.size false c.is_size.ensures c.if-is_size.false
