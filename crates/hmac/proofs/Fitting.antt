-- The answers are small: a tag's length, at most 64, and yes or no.
use Prim.Native.Nat.{ℕ, ◌/◌, ◌^◌, ◌<◌}
use native.Mathlib.Omega.{arith}
use lib.Dec.{leb, lit<}
use lib.ListN.{length}
use Rattle.answer.specs.declared.Refusal.TheVariants.{Size, Length, Output}
use Rattle.answer.proofs.Injective.{fits_unless}
use Rattle.answer.proofs.Tests.{split}
use Rattle.digest.specs.Kind.{known_size, kind_for}
use Rattle.digest.proofs.Answers.{known_bound}
use Rattle.hmac.specs.Hmac.{hmac_for}
use Rattle.hmac.specs.Calls.{same, fitting}
use Rattle.hmac.specs.Fitting.{HmacFits}

pub hmac_fits : HmacFits
hmac_fits =
    record {
      making = λ n key text room.
          fits_unless (2 ^ 32) (known_size (kind_for n) n) Size _ λ k.
          fits_unless (2 ^ 32) (fitting n key text) Length _ λ _.
          fits_unless (2 ^ 32) (leb (n / 8) room) Output _ λ _. omega (arith, known_bound n k);
      verifying = λ n key text tag.
          fits_unless (2 ^ 32) (known_size (kind_for n) n) Size _ λ _.
          fits_unless (2 ^ 32) (fitting n (length key) (length text)) Length _ λ _.
          split (λ (x : ℕ). x < 2 ^ 32) (same tag (hmac_for n key text)) 1 0 (λ _. lit< tt) (λ _. lit< tt);
    }
