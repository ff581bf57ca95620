-- What the two calls refuse.
use mathlib.Core.Path.{ap, sym, ◌∙◌}
use mathlib.Core.List.{List, ◌++◌}
use Prim.Native.Nat.{ℕ, ◌/◌}
use borrow.Author.Tests.{le-leb, lt-leb}
use lib.ListN.{length, drop}
use Rattle.answer.specs.Refuse.{is_done}
use Rattle.answer.proofs.Refuse.{refused_outcome}
use Rattle.digest.specs.Refusals.{delivering}
use Rattle.hmac.specs.Hmac.{hmac_for}
use Rattle.hmac.specs.Calls.{hmac_answer}
use Rattle.hmac.specs.Refusals.{MakingRefuses, VerifyingRefuses, HmacRefuses}
use Rattle.hmac.proofs.Tests.{is_fitting, passed, both_refuse}

making : (n : ℕ) (key text out : List ℕ) → MakingRefuses n key text out
making n key text out =
    let m = length key in
    let l = length text in
    let r = length out in
    record {
      both = both_refuse n m l (delivering n r);
      short = λ k f h. passed n m l (delivering n r) k (is_fitting n m l f) ∙ rw (lt-leb (n / 8) r h);
      others = λ k f h. passed n m l (delivering n r) k (is_fitting n m l f) ∙ rw (le-leb (n / 8) r h);
      unchanged = λ d. sym (refused_outcome (hmac_answer n m l r) (hmac_for n key text ++ drop (n / 8) out) out d);
    }

verifying : (n : ℕ) (key text tag : List ℕ) → VerifyingRefuses n key text tag
verifying n key text tag =
    let m = length key in
    let l = length text in
    record { both = both_refuse n m l _; others = λ k f. ap is_done (passed n m l _ k (is_fitting n m l f)) }

pub hmac_refuses : HmacRefuses
hmac_refuses = record { making = making; verifying = verifying }
