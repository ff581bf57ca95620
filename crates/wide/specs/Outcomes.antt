-- The code's hash in progress as the definitions' one, and what its operations return. C's contracts cite `hash_of`, `wide_of` and `fed`; `opened` only
-- this crate's own.
use Rattle.std.specs.Prelude.{List, ℕ}
use Rattle.digest.specs.Pipe.{Pipe}
use Rattle.digest.specs.Kind.{wide_kind}
use Rattle.digest.specs.State.{Hash, open_answer, open_state, feed_answer, feed_state}
use Rattle.wide.specs.declared.Pipe64.{Pipe64}
use Rattle.wide.specs.declared.Wide.{Wide}
use Rattle.wide.specs.declared.Outcome.{Outcome}

-- the pipe
abbrev pub pipe64 : Pipe64 → Pipe
pipe64 p = record { first = p.first; second = p.second }

abbrev pub hash_of : Wide → Hash
hash_of h = record { size = h.size; pipe = pipe64 h.pipe; waiting = h.waiting; total = h.total }

-- and back
abbrev pub wide_of : Hash → Wide
wide_of h =
    record {
      size = h.size;
      pipe = record { first = h.pipe.first; second = h.pipe.second };
      waiting = h.waiting;
      total = h.total;
    }

unfoldable pub opened : ℕ → Outcome
opened n = record { answer = open_answer wide_kind n; state = wide_of (open_state wide_kind n) }

unfoldable pub fed : Wide → List ℕ → Outcome
fed h s = record { answer = feed_answer wide_kind (hash_of h) s; state = wide_of (feed_state wide_kind (hash_of h) s) }
