use Rattle.lent_words.proofs.Written.{written}
use Rattle.lent_words.proofs.U64LentWord.store.Goals as goal

pub returns-clause-out_after : goal.returns-clause-out_after
returns-clause-out_after c = written 8 c.args.out.now c.args.at c.args.self c.requires c.to_le_bytes.ensures c.copy_at.ensures
