-- The room that a pipe of words of a type takes in memory, by itself and in the structs that hold one beside n waiting bytes.
use Rattle.std.specs.Prelude.{ℕ, ◌+◌, ◌*◌, ◌^◌, ◌<◌, max}
use denote.Memory.{lone}
use denote.Param.{layout}
use denote.RattleType.{RattleType}
use prog.Memory.{size, align, up}

-- the alignment of a vector, and of a pipe
abbrev vector_align : RattleType → ℕ
vector_align R = max (align (lone R.mir)) 1

abbrev pipe_align : RattleType → ℕ
pipe_align R = max (vector_align R) (max (vector_align R) 1)

-- a vector of eight words, each a struct of one field; a pipe of two vectors
abbrev vector_size : RattleType → ℕ
vector_size R = 8 * up (vector_align R) (up (align (layout R)) 0 + size (lone R.mir))

abbrev pipe_size : RattleType → ℕ
pipe_size R = up (pipe_align R) (up (vector_align R) (up (vector_align R) 0 + vector_size R) + vector_size R)

abbrev pub PipeFits : RattleType → Type 0
PipeFits R = pipe_size R < 2 ^ 63

-- a pipe and the waiting bytes
abbrev pub AbsorbedFits : RattleType → ℕ → Type 0
AbsorbedFits R n = up (max (pipe_align R) 1) (up 1 (up (pipe_align R) 0 + pipe_size R) + n * 1) < 2 ^ 63

-- a hash, and one beside an answer
abbrev hash_align : RattleType → ℕ
hash_align R = max 8 (max (pipe_align R) 8)

abbrev hash_size : RattleType → ℕ → ℕ
hash_size R n = up (hash_align R) (up 8 (up 1 (up (pipe_align R) 8 + pipe_size R) + n * 1) + 8)

abbrev pub HashFits : RattleType → ℕ → Type 0
HashFits R n = hash_size R n < 2 ^ 63

abbrev pub OutcomeFits : RattleType → ℕ → Type 0
OutcomeFits R n = up (max 8 (max (hash_align R) 1)) (up (hash_align R) 16 + hash_size R n) < 2 ^ 63
