-- How many bytes a word has, by the definitions and by its type.
use Rattle.std.proofs.Common.{◌≡◌, ℕ, ◌*◌, arith}
use Rattle.quasigroup.specs.Tables.{Width}
use Rattle.digest.specs.Step.{word_bytes}

pub same_bytes : (s : Width) (w k : ℕ) → s.bits ≡ w → w ≡ 8 * k → word_bytes s ≡ k
same_bytes s w k e f = omega arith
