-- C tells answers by their numbers: no two answers share one, and a test on the number tells a refusal. The statement; proofs/Injective.antt shows it.
use Rattle.std.specs.Prelude.{◌≡◌, ℕ, ◌^◌, ◌<◌, ltb, Ok, Err}
use Rattle.answer.specs.Answer.{Answer, refused_at}
use Rattle.answer.specs.Number.{number_of, marked_number}
use Rattle.answer.specs.Refuse.{is_done}

-- the answers that a number has room for: successes below a bound, and any refusal whose offset is a `u32`
abbrev pub Fits : ℕ → Answer → Type 0
Fits bound (Ok n) = n < bound
Fits bound (Err err) = err.offset < 2 ^ 32

-- a numbering is injective on the answers whose successes are below a bound, and a comparison with the bound finds a refusal
pub record Injective (number : Answer → ℕ) (bound : ℕ) : Type 0 where
  pub answer : (a b : Answer) → Fits bound a → Fits bound b → number a ≡ number b → a ≡ b
  pub refusal : (a : Answer) → Fits bound a → is_done a ≡ ltb (number a) bound

pub record NumbersInjective : Type 0 where
  pub plain : Injective number_of (2 ^ 32)
  pub marked : Injective marked_number (2 ^ 63)
