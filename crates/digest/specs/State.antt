-- A hash in progress (document 01, "The digest", and for a message that ends inside a byte document 02, Paper 7): opening, feeding and finishing, what each
-- answers and leaves, for any kind and any state.
use Rattle.std.specs.Prelude.{Bool, List, [], ◌∷◌, ◌++◌, ℕ, ◌+◌, ◌*◌, ◌/◌, ◌%◌, length, take, drop, replicate}
use Rattle.answer.specs.Answer.{Answer}
use Rattle.digest.specs.Padding.{ending, marked}
use Rattle.digest.specs.Blocks.{compressed, rest, filled, last_bytes}
use Rattle.digest.specs.Pipe.{Pipe}
use Rattle.answer.specs.Refuse.{outcome}
use Rattle.digest.specs.Refusals.{in_form, opening, feeding, finishing, finishing_bits}
use Rattle.digest.specs.Kind.{Kind}

-- `waiting` has room for a block; how many of its bytes wait is the total modulo the block length
pub record Hash : Type 0 where
  pub size : ℕ
  pub pipe : Pipe
  pub waiting : List ℕ
  pub total : ℕ

module _ (k : Kind) where
  -- the state is in form
  abbrev pub formed : Hash → Bool
  formed h = in_form k.small k.large h.size h.total

  -- the bytes fed and not yet part of a whole block; document 01's term is "waiting"
  abbrev pub pending : Hash → List ℕ
  pending h = take (h.total % k.block) h.waiting

  -- ---- opening

  abbrev pub opened : ℕ → Hash
  opened n = record { size = n; pipe = k.start n; waiting = replicate k.block 0; total = 0 }

  -- what stands beside a refusal to open: zeros, and not in form
  abbrev pub zeros : Hash
  zeros =
      record {
        size = 0;
        pipe = record { first = replicate 8 0; second = replicate 8 0 };
        waiting = replicate k.block 0;
        total = 0;
      }

  abbrev pub open_answer : ℕ → Answer
  open_answer n = opening k.small k.large n

  abbrev pub open_state : ℕ → Hash
  open_state n = outcome (open_answer n) (opened n) zeros

  -- ---- feeding

  -- the pending bytes and then s: whole blocks go into the pipe, the rest waits, with zeros behind it
  unfoldable pub advanced : Hash → List ℕ → Hash
  advanced h s =
      record {
        size = h.size;
        pipe = compressed k.block k.step h.pipe (pending h ++ s);
        waiting = filled k.block (rest k.block (pending h ++ s));
        total = h.total + length s;
      }

  abbrev pub feed_answer : Hash → List ℕ → Answer
  feed_answer h s = feeding k.small k.large h.size h.total (length s)

  abbrev pub feed_state : Hash → List ℕ → Hash
  feed_state h s = outcome (feed_answer h s) (advanced h s) h

  -- the state after a list of pieces, fed one after the other
  abbrev pub feed_all : Hash → List (List ℕ) → Hash
  feed_all h [] = h
  feed_all h (s ∷ ss) = feed_all (feed_state h s) ss

  -- ---- finishing: it takes the state by value, so the state stays as it is

  -- the pipe behind the last block: p the pipe, w the pending bytes, t the total, then the byte of the one bit and the length in bits
  unfoldable pub closed : Pipe → List ℕ → ℕ → ℕ → ℕ → Pipe
  closed p w t mark bits = compressed k.block k.step p (w ++ ending k.block t mark bits)

  -- the digest of size n is the last n/8 bytes of a pipe written out
  abbrev pub cut : ℕ → Pipe → List ℕ
  cut n p = last_bytes (n / 8) (k.written p)

  abbrev pub finished : Hash → List ℕ
  finished h = cut h.size (closed h.pipe (pending h) h.total 0x80 (8 * h.total))

  abbrev pub finish_answer : Hash → List ℕ → Answer
  finish_answer h out = finishing k.small k.large h.size h.total (length out)

  -- the output afterwards: the digest, and then what stood behind it
  abbrev pub finish_out : Hash → List ℕ → List ℕ
  finish_out h out = outcome (finish_answer h out) (finished h ++ drop (h.size / 8) out) out

  -- ---- finishing with the count highest bits of a last byte behind the bytes that were fed

  abbrev pub finished_bits : Hash → ℕ → ℕ → List ℕ
  finished_bits h last count = cut h.size (closed h.pipe (pending h) h.total (marked last count) (8 * h.total + count))

  abbrev pub finish_bits_answer : Hash → ℕ → List ℕ → Answer
  finish_bits_answer h count out = finishing_bits k.small k.large h.size h.total count (length out)

  abbrev pub finish_bits_out : Hash → ℕ → ℕ → List ℕ → List ℕ
  finish_bits_out h last count out = outcome (finish_bits_answer h count out) (finished_bits h last count ++ drop (h.size / 8) out) out
