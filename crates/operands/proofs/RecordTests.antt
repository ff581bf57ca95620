-- The answer to a call on records by the tests in their order.
use Rattle.std.specs.Prelude.{Ok}
use mathlib.Core.Path.{◌≡◌, sym, subst}
use mathlib.Core.Bool.{true, false}
use Prim.Native.Nat.{ℕ, ◌%◌, ◌^◌, ◌≤◌, ◌<◌}
use borrow.Author.Tests.{eq-eqb, ne_eqb, lt-leb}
use Rattle.answer.specs.Answer.{Answer, refused_at}
use Rattle.answer.specs.declared.Refusal.TheVariants.{Width, Records, Output}
use Rattle.answer.specs.Injective.{Fits}
use Rattle.quasigroup.specs.Tables.{known_width}
use Rattle.shuffle.specs.Shuffle.{record_length, records_answer}
use Rattle.shuffle.proofs.RoundTrip.{accepted as answered}
use Rattle.shuffle.proofs.Fitting.{records_fit}

module _ (w m n : ℕ) (small : m < 2 ^ 63) where
  -- the call returns r, which fits
  abbrev Ended : Answer → Type 0
  Ended r = (r ≡ records_answer w m n) × Fits (2 ^ 63) r

  ended : (r : Answer) → r ≡ records_answer w m n → Ended r
  ended r e = (e, subst (Fits (2 ^ 63)) (sym e) (records_fit w m n small))

  pub unknown_refused : known_width w ≡ false → Ended (refused_at Width 0)
  unknown_refused k = ended (refused_at Width 0) (sym (rw k))

  module _ (k : known_width w ≡ true) where
    pub broken_refused : (m % record_length w ≡ 0 → ⊥) → Ended (refused_at Records 0)
    broken_refused h = ended (refused_at Records 0) (sym (rw (k, ne_eqb _ _ h)))

    module _ (whole : m % record_length w ≡ 0) where
      pub output_refused : n < m → Ended (refused_at Output 0)
      output_refused h = ended (refused_at Output 0) (sym (rw (k, eq-eqb _ _ whole, lt-leb _ _ h)))

      pub accepted : m ≤ n → Ended (Ok m)
      accepted h = ended (Ok m) (sym (answered w m n k whole h))
