-- The code's hash in progress as the definitions' one, and what its operations return. C's contracts cite `hash_of`, `narrow_of` and `fed`; `opened` only
-- this crate's own.
use Rattle.std.specs.Prelude.{List, ℕ}
use Rattle.digest.specs.Pipe.{Pipe}
use Rattle.digest.specs.Kind.{narrow_kind}
use Rattle.digest.specs.State.{Hash, open_answer, open_state, feed_answer, feed_state}
use Rattle.narrow.specs.declared.Pipe32.{Pipe32}
use Rattle.narrow.specs.declared.Narrow.{Narrow}
use Rattle.narrow.specs.declared.Outcome.{Outcome}

-- the pipe
abbrev pub pipe32 : Pipe32 → Pipe
pipe32 p = record { first = p.first; second = p.second }

abbrev pub hash_of : Narrow → Hash
hash_of h = record { size = h.size; pipe = pipe32 h.pipe; waiting = h.waiting; total = h.total }

-- and back
abbrev pub narrow_of : Hash → Narrow
narrow_of h =
    record {
      size = h.size;
      pipe = record { first = h.pipe.first; second = h.pipe.second };
      waiting = h.waiting;
      total = h.total;
    }

unfoldable pub opened : ℕ → Outcome
opened n = record { answer = open_answer narrow_kind n; state = narrow_of (open_state narrow_kind n) }

unfoldable pub fed : Narrow → List ℕ → Outcome
fed h s = record { answer = feed_answer narrow_kind (hash_of h) s; state = narrow_of (feed_state narrow_kind (hash_of h) s) }
