-- What the code of the calls answers and leaves once its tests have come out.
use Rattle.std.specs.Prelude.{Ok}
use mathlib.Core.Path.{◌≡◌, ap, sym, ◌∙◌}
use mathlib.Core.Bool.{Bool, true, false, not, cond}
use mathlib.Core.List.{List, ◌++◌}
use Prim.Native.Nat.{ℕ, ◌-◌, ◌/◌, ◌≤◌, ◌<◌}
use borrow.Author.Tests.{le-leb, ltb-true, ltb-false, lt-leb}
use lib.Dec.{leb, ltb}
use lib.ListN.{length, drop}
use Rattle.answer.specs.Answer.{Answer, refused_at}
use Rattle.answer.specs.declared.Refusal.TheVariants.{Size, Length, Output}
use Rattle.answer.specs.Refuse.{is_done}
use Rattle.answer.proofs.Tests.{goes_on, stops}
use Rattle.answer.proofs.Outcome.{ends_refused, ends_done}
use Rattle.digest.specs.Refusals.{limit, delivering}
use Rattle.digest.specs.Kind.{known_size, kind_for, wide_kind, narrow_kind, Known}
use Rattle.hmac.specs.Hmac.{block_for, hmac_for}
use Rattle.hmac.specs.Calls.{fitting, keying, hmac_answer, hmac_out}
use Rattle.hmac.specs.Refusals.{Fitting}
use Rattle.hmac.proofs.Tests.{long_key_lem, unknown_size, too_long, passed, accepted}

-- ---- the block length, where the test of the wide kind came out so
pub block_by_kind : (n : ℕ) (b : Bool) {t : Bool} → t ≡ known_size wide_kind n → t ≡ b → (cond b wide_kind narrow_kind).block ≡ block_for n
block_by_kind n b e f = ap (λ (x : Bool). (cond x wide_kind narrow_kind).block) (sym f ∙ e)

-- ---- the lengths
module _ (n key text : ℕ) where
  pub no_key : limit < key → false ≡ fitting n key text
  no_key h = sym (long_key_lem n key text h)

  pub by_message : {b : ℕ} → b ≡ block_for n → key ≤ limit → leb text (limit - b) ≡ fitting n key text
  by_message e h = ap (λ (x : ℕ). leb text (limit - x)) e ∙ rw (le-leb key limit h)

-- ---- the answers, test by test: t, u and s are what the code found of the size, the lengths and the output
module _ (n key text : ℕ) {t : Bool} (e : t ≡ known_size (kind_for n) n) where
  pub ends_unknown : (next : Answer) → not t ≡ true → refused_at Size 0 ≡ keying n key text next
  ends_unknown next h = sym (unknown_size n key text next (stops e h))

  module _ {u : Bool} (d : u ≡ fitting n key text) (h : not t ≡ false) where
    pub ends_long : (next : Answer) → not u ≡ true → refused_at Length 0 ≡ keying n key text next
    ends_long next g = sym (too_long n key text next (goes_on e h) (stops d g))

    module _ (g : not u ≡ false) where
      pub ends_passed : (next : Answer) → next ≡ keying n key text next
      ends_passed next = sym (passed n key text next (goes_on e h) (goes_on d g))

      module _ (room : ℕ) {s : Bool} (f : s ≡ ltb room (n / 8)) where
        pub ends_short : s ≡ true → refused_at Output 0 ≡ hmac_answer n key text room
        ends_short z =
            let q : refused_at Output 0 ≡ delivering n room = rw (lt-leb (n / 8) room (ltb-true _ _ (sym f ∙ z))) in
            q ∙ ends_passed (delivering n room)

        pub ends_room : s ≡ false → Ok (n / 8) ≡ hmac_answer n key text room
        ends_room z =
            let q : Ok (n / 8) ≡ delivering n room = rw (le-leb (n / 8) room (ltb-false _ _ (sym f ∙ z))) in
            q ∙ ends_passed (delivering n room)

-- ---- making a tag, by the answer r
module _ (n : ℕ) (key text out : List ℕ) {r : Answer} (e : r ≡ hmac_answer n (length key) (length text) (length out)) {t : Bool} (d : t ≡ is_done r) where
  -- the call returns r and leaves `last`
  abbrev Made : List ℕ → Type 0
  Made last = (r ≡ hmac_answer n (length key) (length text) (length out)) × (last ≡ hmac_out n key text out)

  pub not_made : not t ≡ true → Made out
  not_made h = ends_refused (hmac_for n key text ++ drop (n / 8) out) out e d h

  module _ (h : not t ≡ false) where
    pub asked : Known n × Fitting n (length key) (length text) × (n / 8 ≤ length out)
    asked =
        let a = accepted n (length key) (length text) (length out) (ap is_done (sym e) ∙ goes_on d h) in
        (a.known, a.fits, a.out)

    pub made : {last : List ℕ} → last ≡ hmac_for n key text ++ drop (n / 8) out → Made last
    made g = ends_done (hmac_for n key text ++ drop (n / 8) out) out e d h g
