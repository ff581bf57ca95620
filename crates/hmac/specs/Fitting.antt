-- What the calls answer fits the number that C receives, so that the number tells the answer (`NumbersInjective`, crate answer). The statement;
-- proofs/Fitting.antt shows it.
use Rattle.std.specs.Prelude.{List, ℕ, ◌^◌}
use Rattle.answer.specs.Injective.{Fits}
use Rattle.hmac.specs.Calls.{hmac_answer, verify_answer}

pub record HmacFits : Type 0 where
  pub making : (n key text room : ℕ) → Fits (2 ^ 32) (hmac_answer n key text room)
  pub verifying : (n : ℕ) (key text tag : List ℕ) → Fits (2 ^ 32) (verify_answer n key text tag)
