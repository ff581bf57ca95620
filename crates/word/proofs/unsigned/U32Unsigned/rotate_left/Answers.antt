use Rattle.std.proofs.Common.{rules}
use Rattle.word.proofs.Rotation.{rotated_left}
use Rattle.word.proofs.unsigned.U32Unsigned.rotate_left.Goals as goal

pub returns-clause-value : goal.returns-clause-value
returns-clause-value c = cc (rotated_left 32 c.args.r c.args.self (search rules) (search rules))
