use Rattle.std.proofs.Common.{rules}
use Rattle.word.proofs.Rotation.{rotated_right}
use Rattle.word.proofs.unsigned.U32Unsigned.rotate_right.Goals as goal

pub returns-clause-value : goal.returns-clause-value
returns-clause-value c = cc (rotated_right 32 c.args.r c.args.self (search rules) (search rules))
