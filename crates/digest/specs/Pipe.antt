-- 001's double pipe, the chaining value; document 01's term is "pipe". Sixteen words, as two vectors.
use Rattle.std.specs.Prelude.{List, ◌++◌, ℕ}
use Rattle.memory.specs.Bytes.{bytes_of}

-- words 0 to 7 and words 8 to 15
pub record Pipe : Type 0 where
  pub first : List ℕ
  pub second : List ℕ

-- a pipe written out: word 0 first, k bytes a word, lowest byte first
abbrev pub written : ℕ → Pipe → List ℕ
written k p = bytes_of k (p.first ++ p.second)
