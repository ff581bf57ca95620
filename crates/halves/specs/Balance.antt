-- How the code undoes the sums: two fifths of all of them, and a few words added and taken away. Only contracts of private functions cite this.
use Rattle.std.specs.Prelude.{List, ℕ, ◌+◌, ◌-◌, ◌%◌, ◌^◌}
use Rattle.word.specs.Word.{plus, times, inverse}
use Rattle.quasigroup.specs.Product.{fold, sum}

-- u and the words of p, less those of n, modulo 2^w
unfoldable pub balance : ℕ → ℕ → List ℕ → List ℕ → ℕ
balance w u p n = (u + fold ◌+◌ p + (2 ^ w - fold ◌+◌ n % 2 ^ w)) % 2 ^ w

-- twice the inverse of 5 times the sum of all words
unfoldable pub two_fifths : ℕ → List ℕ → ℕ
two_fifths w s = plus w (times w (inverse w 5) (sum w 0 s)) (times w (inverse w 5) (sum w 0 s))
