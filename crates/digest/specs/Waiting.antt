-- Document 01: bytes behind the waiting ones never matter to an answer; opening and each accepted feeding leave them zero. The statement, for
-- every state that code can hold: one whose `waiting` is a block long. Of size, pipe and total nothing is asked.
use Rattle.std.specs.Prelude.{◌≡◌, List, ℕ, ◌-◌, ◌%◌, length, take, drop, replicate}
use Rattle.digest.specs.Kind.{Kind}
use Rattle.digest.specs.State.{Hash, opened, advanced, feed_answer, finish_answer, finish_out, finish_bits_answer, finish_bits_out}

abbrev pub Held : Kind → Hash → Type 0
Held k h = length h.waiting ≡ k.block

-- zeros stand behind the waiting bytes
abbrev pub Clean : Kind → Hash → Type 0
Clean k h = drop (h.total % k.block) h.waiting ≡ replicate (k.block - h.total % k.block) 0

-- two states that differ at most behind the waiting bytes
pub record Alike (k : Kind) (g h : Hash) : Type 0 where
  pub size : g.size ≡ h.size
  pub pipe : g.pipe ≡ h.pipe
  pub total : g.total ≡ h.total
  pub pending : take (g.total % k.block) g.waiting ≡ take (h.total % k.block) h.waiting

pub record Waiting (k : Kind) : Type 0 where
  pub opened_clean : (n : ℕ) → Held k (opened k n) × Clean k (opened k n)
  pub fed_clean : (h : Hash) (s : List ℕ) → Held k h → Held k (advanced k h s) × Clean k (advanced k h s)
  -- alike states answer alike, an accepted feeding takes them to the same state, and a finishing writes the same
  pub fed_alike : (g h : Hash) → Alike k g h → (s : List ℕ) → (feed_answer k g s ≡ feed_answer k h s) × (advanced k g s ≡ advanced k h s)
  pub finished_alike : (g h : Hash) → Alike k g h → (out : List ℕ)
      → (finish_answer k g out ≡ finish_answer k h out) × (finish_out k g out ≡ finish_out k h out)
  pub bits_alike : (g h : Hash) → Alike k g h → (last count : ℕ) (out : List ℕ)
      → (finish_bits_answer k g count out ≡ finish_bits_answer k h count out) × (finish_bits_out k g last count out ≡ finish_bits_out k h last count out)
