-- `distance` is a metric on lists of bytes of one length, and adds up. The statement; proofs/Metric.antt shows it.
use Rattle.std.specs.Prelude.{◌≡◌, List, ◌++◌, ℕ, ◌+◌, ◌*◌, ◌≤◌, length}
use Rattle.memory.specs.Bytes.{Bytes}
use Rattle.hamming.specs.Distance.{distance}

pub record Metric : Type 0 where
  -- 0 exactly where two lists of one length are the same
  pub same : (s : List ℕ) → distance s s ≡ 0
  pub apart : (s t : List ℕ) → Bytes s → Bytes t → length s ≡ length t → distance s t ≡ 0 → s ≡ t
  -- the same in either order
  pub symmetric : (s t : List ℕ) → distance s t ≡ distance t s
  -- no way round is shorter
  pub triangle : (s t u : List ℕ) → length s ≡ length t → length t ≡ length u → distance s u ≤ distance s t + distance t u
  -- at most all bits
  pub most : (s t : List ℕ) → distance s t ≤ 8 * length s
  -- of lists in two parts, the sum of both
  pub parts : (a b s t : List ℕ) → length a ≡ length b → distance (a ++ s) (b ++ t) ≡ distance a b + distance s t
