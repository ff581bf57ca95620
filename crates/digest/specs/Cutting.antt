-- A message cut into pieces: however it is cut, the hash in progress answers and writes what the one call does. The statement; proofs/Cutting.antt shows it.
use Rattle.std.specs.Prelude.{◌≡◌, true, List, [], ◌∷◌, ◌++◌, ℕ, ◌≤◌, length}
use Rattle.answer.specs.Answer.{Answer}
use Rattle.answer.specs.Refuse.{outcome}
use Rattle.digest.specs.Refusals.{limit}
use Rattle.digest.specs.Kind.{Kind, known_size, kind_for}
use Rattle.digest.specs.State.{Hash, open_answer, open_state, feed_answer, feed_state, feed_all, finish_answer, finish_out, finish_bits_answer, finish_bits_out}
use Rattle.digest.specs.OneCall.{digest_answer, digest_out, one_call_answer, one_call_out}

-- the bytes of a list of pieces
abbrev pub concatenated : List (List ℕ) → List ℕ
concatenated [] = []
concatenated (s ∷ ss) = s ++ concatenated ss

-- an answer and the output beside it
pub record Written : Type 0 where
  pub answer : Answer
  pub out : List ℕ

module _ (k : Kind) where
  -- what a finishing answers and writes, document 01's and that with bits of a last byte
  abbrev pub finishes : List ℕ → Hash → Written
  finishes out h = record { answer = finish_answer k h out; out = finish_out k h out }

  abbrev pub finishes_bits : ℕ → ℕ → List ℕ → Hash → Written
  finishes_bits last count out h = record { answer = finish_bits_answer k h count out; out = finish_bits_out k h last count out }

  -- feeding the pieces one after the other and then finishing, by a caller who stops at the first refusal
  abbrev pub fed_and : (Hash → Written) → Hash → List (List ℕ) → List ℕ → Written
  fed_and finish h [] out = finish h
  fed_and finish h (s ∷ ss) out =
      outcome (feed_answer k h s) (fed_and finish (feed_state k h s) ss out) (record { answer = feed_answer k h s; out = out })

  -- the same, opening first
  abbrev pub opened_and : (Hash → Written) → ℕ → List (List ℕ) → List ℕ → Written
  opened_and finish n ss out = outcome (open_answer k n) (fed_and finish (open_state k n) ss out) (record { answer = open_answer k n; out = out })

  abbrev pub in_pieces : ℕ → List (List ℕ) → List ℕ → Written
  in_pieces n ss out = opened_and (finishes out) n ss out

  abbrev pub in_pieces_bits : ℕ → List (List ℕ) → ℕ → ℕ → List ℕ → Written
  in_pieces_bits n ss last count out = opened_and (finishes_bits last count out) n ss out

  -- the bytes of the pieces that are accepted, where the caller goes on behind a refusal
  abbrev pub accepted : Hash → List (List ℕ) → List ℕ
  accepted h [] = []
  accepted h (s ∷ ss) = outcome (feed_answer k h s) (s ++ accepted (feed_state k h s) ss) (accepted h ss)

-- a call on an open hash, with the bytes that it is lent
pub data Call : Type 0 where
  feed : List ℕ → Call
  finish : List ℕ → Call
  finish_bits : ℕ → ℕ → List ℕ → Call

-- the pieces that a list of calls feeds
abbrev pub pieces : List Call → List (List ℕ)
pieces [] = []
pieces (feed s ∷ cs) = s ∷ pieces cs
pieces (finish out ∷ cs) = pieces cs
pieces (finish_bits last count out ∷ cs) = pieces cs

-- the state after a list of calls: a finishing leaves it as it is, since it takes the state by value, or for C by a reference through which nothing is written
abbrev pub after_calls : Kind → Hash → List Call → Hash
after_calls k h [] = h
after_calls k h (feed s ∷ cs) = after_calls k (feed_state k h s) cs
after_calls k h (finish out ∷ cs) = after_calls k h cs
after_calls k h (finish_bits last count out ∷ cs) = after_calls k h cs

pub record Cutting (k : Kind) : Type 0 where
  -- for every size, every list of pieces and every output: what the one call answers and writes for the joined message, refusals too.
  -- A joined message over 2^61 - 1 bytes is refused with 3 by both; then it is some feeding that refuses.
  pub whole : (n : ℕ) (ss : List (List ℕ)) (out : List ℕ)
      → in_pieces k n ss out ≡ record { answer = digest_answer k n (concatenated ss) out; out = digest_out k n (concatenated ss) out }
  -- a caller who goes on behind refused feedings gets the digest of the accepted pieces, which are never too long
  pub fits : (n : ℕ) (ss : List (List ℕ)) → length (accepted k (open_state k n) ss) ≤ limit
  pub goes_on : (n : ℕ) (ss : List (List ℕ)) (out : List ℕ) → known_size k n ≡ true
      → (finish_answer k (feed_all k (open_state k n) ss) out ≡ digest_answer k n (accepted k (open_state k n) ss) out)
      × (finish_out k (feed_all k (open_state k n) ss) out ≡ digest_out k n (accepted k (open_state k n) ss) out)
  -- feeding behind a finishing goes on as if there had been none
  pub finish_leaves : (h : Hash) (cs : List Call) → after_calls k h cs ≡ feed_all k h (pieces cs)

-- of the four sizes, each in its kind
abbrev pub CuttingOneCall : Type 0
CuttingOneCall = (n : ℕ) (ss : List (List ℕ)) (out : List ℕ)
    → in_pieces (kind_for n) n ss out ≡ record { answer = one_call_answer n (concatenated ss) out; out = one_call_out n (concatenated ss) out }
