-- What two equal results have in common, and what `?` goes by and hands on.
use Rattle.std.specs.Prelude.{◌≡◌, ℕ, Bool, true, false, Result, Ok, Err, IsErr, IsErrAnd, not, is_err}
use Rattle.std.proofs.Common.{refl, ap, arith}
use Rattle.answer.specs.Answer.{Answer, refused_at}
use Rattle.answer.specs.declared.Refusal.{Refusal}
use Rattle.answer.specs.declared.Refused.{Refused}
use Rattle.answer.specs.Refuse.{passed, is_done}

module _ {A : Type 0} where
  pub ok_one : {x y : A} → ◌≡◌ {A = Result A Refused} (Ok x) (Ok y) → x ≡ y
  ok_one e = cc

  pub err_one : {x y : Refused} → ◌≡◌ {A = Result A Refused} (Err x) (Err y) → x ≡ y
  err_one e = cc

  pub same_refusal : {r q : Refusal} {i j : ℕ} → ◌≡◌ {A = Result A Refused} (refused_at r i) (refused_at q j) → r ≡ q
  same_refusal e = ap (λ (x : Refused). x.refusal) (err_one e)

  pub same_offset : {r q : Refusal} {i j : ℕ} → ◌≡◌ {A = Result A Refused} (refused_at r i) (refused_at q j) → i ≡ j
  same_offset e = ap (λ (x : Refused). x.offset) (err_one e)

  -- a refusal that `?` hands on is the one that it found
  pub handed_on : (r : Result A Refused) {x : Refused} → IsErr r × IsErrAnd r (λ e. e ≡ x) → r ≡ Err x
  handed_on (Ok a) h = absurd h.1
  handed_on (Err e) h = ap (λ (y : Refused). Err y) h.1

-- behind a test that was passed it holds
pub held : (t : Bool) (q : Refusal) {u : Unit {0}} → ◌≡◌ {A = Result (Unit {0}) Refused} (Ok u) (passed t q) → t ≡ true
held true q e = refl
held false q e = let z : ◌≡◌ {A = ℕ} 0 1 = cc in absurd (omega arith)

-- one that refused does not, and its refusal is the one it was given
pub failed : (t : Bool) (q : Refusal) {x : Refused} → ◌≡◌ {A = Result (Unit {0}) Refused} (Err x) (passed t q) → (t ≡ false) × (x ≡ record { refusal = q; offset = 0 })
failed true q e = let z : ◌≡◌ {A = ℕ} 0 1 = cc in absurd (omega arith)
failed false q e = (refl, err_one e)

-- what the library's test of a result tells of an answer
pub erred : (a : Answer) {t : Bool} → t ≡ is_err a → t ≡ true → not (is_done a) ≡ true
erred (Ok n) e f = let z : ◌≡◌ {A = ℕ} 0 1 = cc in absurd (omega arith)
erred (Err x) e f = refl

pub went : (a : Answer) {t : Bool} → t ≡ is_err a → t ≡ false → not (is_done a) ≡ false
went (Ok n) e f = refl
went (Err x) e f = let z : ◌≡◌ {A = ℕ} 0 1 = cc in absurd (omega arith)
