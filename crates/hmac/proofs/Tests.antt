-- The tests of the two calls, and what is answered once they have come out.
use Rattle.std.specs.Prelude.{Ok}
use mathlib.Core.Path.{◌≡◌, refl}
use mathlib.Core.Bool.{true, false, ◌&&◌}
use Prim.Native.Nat.{ℕ, ◌-◌, ◌/◌, ◌≤◌, ◌<◌}
use borrow.Author.Tests.{leb-true, le-leb, lt-leb}
use lib.Dec.{leb}
use Rattle.answer.specs.Answer.{Answer, refused_at}
use Rattle.answer.specs.declared.Refusal.TheVariants.{Size, Length, Output}
use Rattle.answer.specs.Refuse.{is_done}
use Rattle.answer.proofs.Tests.{both_true}
use Rattle.answer.proofs.Refuse.{unless_done}
use Rattle.digest.specs.Refusals.{limit, delivering}
use Rattle.digest.specs.Kind.{known_size, kind_for, Known}
use Rattle.hmac.specs.Hmac.{block_for}
use Rattle.hmac.specs.Calls.{fitting, keying, hmac_answer}
use Rattle.hmac.specs.Refusals.{Fitting, BothRefuse}

module _ (n key text : ℕ) where
  pub fitting_is : fitting n key text ≡ true → Fitting n key text
  fitting_is e =
      let f = both_true (leb key limit) (leb text (limit - block_for n)) e in
      record { of_key = leb-true _ _ f.0; of_message = leb-true _ _ f.1 }

  pub is_fitting : Fitting n key text → fitting n key text ≡ true
  is_fitting f = rw (le-leb key limit f.of_key, le-leb text (limit - block_for n) f.of_message)

  pub long_key_lem : limit < key → fitting n key text ≡ false
  long_key_lem h = rw (lt-leb key limit h)

  long_message_lem : limit - block_for n < text → fitting n key text ≡ false
  long_message_lem h = neither (leb key limit) (lt-leb text (limit - block_for n) h)
    where
      neither : (a : _) {b : _} → b ≡ false → a && b ≡ false
      neither true e = e
      neither false e = refl

  module _ (next : Answer) where
    pub unknown_size : known_size (kind_for n) n ≡ false → keying n key text next ≡ refused_at Size 0
    unknown_size e = rw e

    pub too_long : Known n → fitting n key text ≡ false → keying n key text next ≡ refused_at Length 0
    too_long k e = rw (k, e)

    pub passed : Known n → fitting n key text ≡ true → keying n key text next ≡ next
    passed k e = rw (k, e)

    pub both_refuse : BothRefuse n key text (keying n key text next)
    both_refuse =
        record { size = unknown_size; long_key = λ k h. too_long k (long_key_lem h); long_message = λ k h. too_long k (long_message_lem h) }

    -- what is not refused has passed both
    pub keying_done : is_done (keying n key text next) ≡ true → Known n × Fitting n key text × (is_done next ≡ true)
    keying_done d =
        let a = unless_done (known_size (kind_for n) n) Size _ d in
        let b = unless_done (fitting n key text) Length _ a.1 in
        (a.0, fitting_is b.0, b.1)

-- making a tag, where nothing is refused
pub record Accepted (n key text room : ℕ) : Type 0 where
  pub known : Known n
  pub fits : Fitting n key text
  pub out : n / 8 ≤ room

pub accepted : (n key text room : ℕ) → is_done (hmac_answer n key text room) ≡ true → Accepted n key text room
accepted n key text room d =
    let a = keying_done n key text (delivering n room) d in
    let b = unless_done (leb (n / 8) room) Output (Ok (n / 8)) a.2 in
    record { known = a.0; fits = a.1; out = leb-true _ _ b.0 }
