use Rattle.std.proofs.Common.{◌+◌, ◌-◌, ◌%◌, ◌^◌, sym, ap, mod-eq_of_lt, rules}
use Rattle.word.specs.Word.{minus}
use Rattle.word.proofs.unsigned.U64Unsigned.wrapping_sub.Goals as goal

pub returns : goal.returns
unfolding minus
returns c = ap (λ n. (c.args.self + (2 ^ 64 - n)) % 2 ^ 64) (sym (mod-eq_of_lt {m = 2 ^ 64} (search rules)))
