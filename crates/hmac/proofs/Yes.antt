-- Yes, exactly when the tag is the true one.
use Rattle.std.specs.Prelude.{Ok}
use mathlib.Core.Path.{◌≡◌, ap, sym, ◌∙◌}
use mathlib.Core.Bool.{Bool, true, false, cond}
use mathlib.Core.List.{List, ◌++◌}
use Prim.Native.Nat.{ℕ, ◌/◌, ◌^◌, ◌≤◌}
use native.Mathlib.Omega.{arith}
use lib.ListN.{length, take, drop}
use lib.Seq.{take-append_seam}
use Rattle.answer.specs.Answer.{Answer}
use Rattle.answer.specs.declared.Refusal.TheVariants.{Size, Length}
use Rattle.answer.specs.Number.{number_of}
use Rattle.answer.specs.Refuse.{is_done}
use Rattle.answer.proofs.Refuse.{done_outcome, unless_cases}
use Rattle.answer.proofs.Tests.{decide}
use Rattle.digest.specs.Kind.{known_size, kind_for, Known}
use Rattle.hmac.specs.Hmac.{hmac_for}
use Rattle.hmac.specs.Calls.{same, fitting, hmac_answer, hmac_out, verify_answer}
use Rattle.hmac.specs.Refusals.{Fitting}
use Rattle.hmac.specs.Yes.{TrueTag, Yes, YesExactly}
use Rattle.hmac.proofs.KeyBlock.{tag_length}
use Rattle.hmac.proofs.Same.{same_equal, equal_same, unequal_same}
use Rattle.hmac.proofs.Tests.{is_fitting, fitting_is, passed, accepted}

module _ (n : ℕ) (key text tag : List ℕ) where
  abbrev found : Answer
  found = Ok (cond (same tag (hmac_for n key text)) 1 0)

  answered : Known n → Fitting n (length key) (length text) → (b : Bool) → same tag (hmac_for n key text) ≡ b → verify_answer n key text tag ≡ Ok (cond b 1 0)
  answered k f b e =
      passed n (length key) (length text) found k (is_fitting n (length key) (length text) f) ∙ ap (λ (x : Bool). Ok (cond x 1 0)) e

  yes : TrueTag n key text tag → verify_answer n key text tag ≡ Ok 1
  yes t = answered t.known t.fitting true (equal_same _ _ t.bytes)

  only : number_of (verify_answer n key text tag) ≡ 1 → TrueTag n key text tag
  only =
      unless_cases (λ (a : Answer). number_of a ≡ 1 → TrueTag n key text tag) (known_size (kind_for n) n) Size _ (λ _ e. absurd (omega arith)) λ k.
      unless_cases (λ (a : Answer). number_of a ≡ 1 → TrueTag n key text tag) (fitting n (length key) (length text)) Length _ (λ _ e. absurd (omega arith))
      λ f e. decide (same tag (hmac_for n key text))
      (λ s. let b = same_equal tag (hmac_for n key text) s in
      record { known = k; fitting = fitting_is _ _ _ f; size = ap length b ∙ tag_length n k key text; bytes = b })
      (λ s. let z : ◌≡◌ {A = ℕ} 0 1 = ap (λ (x : Bool). cond x 1 0) (sym s) ∙ e in absurd (omega arith))

  no : Known n → Fitting n (length key) (length text) → (tag ≡ hmac_for n key text → ⊥) → verify_answer n key text tag ≡ Ok 0
  no k f d = answered k f false (unequal_same _ _ d)

  refused : is_done (verify_answer n key text tag) ≡ false → 2 ^ 32 ≤ number_of (verify_answer n key text tag)
  refused =
      unless_cases (λ (a : Answer). is_done a ≡ false → 2 ^ 32 ≤ number_of a) (known_size (kind_for n) n) Size _ (λ _ e. omega arith) λ k.
      unless_cases (λ (a : Answer). is_done a ≡ false → 2 ^ 32 ≤ number_of a) (fitting n (length key) (length text)) Length _ (λ _ e. omega arith)
      λ f e. let z : ◌≡◌ {A = ℕ} 0 1 = cc in omega arith

  exactly : Yes n key text tag
  exactly =
      record {
        yes = λ t. ap number_of (yes t);
        only = only;
        other_length = λ k f d. no k f (λ e. d (ap length e ∙ tag_length n k key text));
        other_bytes = no;
        refused = refused;
      }

made : (n : ℕ) (key text out : List ℕ) → is_done (hmac_answer n (length key) (length text) (length out)) ≡ true
    → verify_answer n key text (take (n / 8) (hmac_out n key text out)) ≡ Ok 1
made n key text out d =
    let a = accepted n (length key) (length text) (length out) d in
    let t = hmac_for n key text in
    let l = tag_length n a.known key text in
    let b : take (n / 8) (hmac_out n key text out) ≡ t =
    ap (take (n / 8)) (sym (done_outcome (hmac_answer n (length key) (length text) (length out)) (t ++ drop (n / 8) out) out d))
    ∙ ap (λ (j : ℕ). take j (t ++ drop (n / 8) out)) (sym l) ∙ take-append_seam t (drop (n / 8) out) in
    yes n key text _ (record { known = a.known; fitting = a.fits; size = ap length b ∙ l; bytes = b })

pub yes_exactly : YesExactly
yes_exactly = record { exactly = exactly; made = made }
