-- What the calls of a hash answer fits the number that C receives, which therefore tells the answer (`NumbersInjective`, crate answer): a success is below
-- 2^32, and that of a feeding, whose refusals are marked, below 2^63. The statement; proofs/Fitting.antt shows it.
use Rattle.std.specs.Prelude.{List, ℕ, ◌^◌}
use Rattle.answer.specs.Injective.{Fits}
use Rattle.digest.specs.Kind.{Kind}
use Rattle.digest.specs.State.{Hash, open_answer, feed_answer, finish_answer, finish_bits_answer}
use Rattle.digest.specs.OneCall.{one_call_answer}

abbrev pub OneCallFits : Type 0
OneCallFits = (n : ℕ) (m out : List ℕ) → Fits (2 ^ 32) (one_call_answer n m out)

-- in pieces
pub record PiecesFit (k : Kind) : Type 0 where
  pub opening : (n : ℕ) → Fits (2 ^ 32) (open_answer k n)
  pub feeding : (h : Hash) (s : List ℕ) → Fits (2 ^ 63) (feed_answer k h s)
  pub finishing : (h : Hash) (out : List ℕ) → Fits (2 ^ 32) (finish_answer k h out)
  pub finishing_bits : (h : Hash) (count : ℕ) (out : List ℕ) → Fits (2 ^ 32) (finish_bits_answer k h count out)
