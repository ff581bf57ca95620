-- The two kinds of hash, narrow and wide (document 01, "The digest"; 001, Table 1.2): one definition over the width.
use Rattle.std.specs.Prelude.{◌≡◌, Bool, true, cond, List, ℕ, ◌*◌, eqb}
use Rattle.quasigroup.specs.Tables.{Width, width32, width64}
use Rattle.digest.specs.Pipe.{Pipe, written}
use Rattle.digest.specs.Start.{start224, start256, start384, start512}
use Rattle.digest.specs.Step.{word_bytes, step}
use Rattle.digest.specs.Refusals.{is_size}

pub record Kind : Type 0 where
  -- the length of a block in bytes
  pub block : ℕ
  -- the two sizes, in bits
  pub small : ℕ
  pub large : ℕ
  -- the starting pipe of a size
  pub start : ℕ → Pipe
  -- a pipe after one block
  pub step : Pipe → List ℕ → Pipe
  -- a pipe in bytes
  pub written : Pipe → List ℕ

-- a block is sixteen words
abbrev pub kind_of : Width → ℕ → ℕ → Pipe → Pipe → Kind
kind_of s small large smallStart largeStart =
    record {
      block = 16 * word_bytes s;
      small = small;
      large = large;
      start = λ n. cond (eqb n small) smallStart largeStart;
      step = step s;
      written = written (word_bytes s);
    }

abbrev pub narrow_kind : Kind
narrow_kind = kind_of width32 224 256 start224 start256

abbrev pub wide_kind : Kind
wide_kind = kind_of width64 384 512 start384 start512

-- n is one of the kind's two sizes
abbrev pub known_size : Kind → ℕ → Bool
known_size k n = is_size k.small k.large n

-- the kind of a size
abbrev pub kind_for : ℕ → Kind
kind_for n = cond (known_size wide_kind n) wide_kind narrow_kind

-- n is one of the four sizes (`FourSizes`)
abbrev pub Known : ℕ → Type 0
Known n = known_size (kind_for n) n ≡ true
