-- The one call goes by the kind of its size.
use Rattle.std.specs.Prelude.{Ok}
use mathlib.Core.Path.{◌≡◌, refl, ap, sym, subst, ◌∙◌}
use mathlib.Core.Bool.{Bool, true, false, ◌||◌, cond}
use mathlib.Core.List.{List, ◌++◌}
use Prim.Native.Nat.{ℕ, ◌/◌, ◌≤◌}
use borrow.Author.Tests.{le-leb}
use lib.ListN.{length, drop}
use Rattle.answer.specs.Answer.{Answer}
use Rattle.answer.specs.Refuse.{outcome}
use Rattle.digest.specs.Refusals.{limit}
use Rattle.digest.specs.Kind.{known_size, narrow_kind, wide_kind, kind_for, Known}
use Rattle.digest.specs.OneCall.{digest_for, digest_answer, digest_out, one_call_answer, one_call_out, FourSizes}

-- what the call of one kind gives is what the one call gives, where the size's test came out so
pub by_kind : (n : ℕ) (m out : List ℕ) (b : Bool) {a : Answer} {last : List ℕ} → known_size wide_kind n ≡ b
    → (a ≡ digest_answer (cond b wide_kind narrow_kind) n m out) × (last ≡ digest_out (cond b wide_kind narrow_kind) n m out)
    → (a ≡ one_call_answer n m out) × (last ≡ one_call_out n m out)
by_kind n m out b {a} {last} e f =
    subst (λ (x : Bool). (a ≡ digest_answer (cond x wide_kind narrow_kind) n m out) × (last ≡ digest_out (cond x wide_kind narrow_kind) n m out)) (sym e) f

-- whether a size is one of the four, where the test of the wide kind came out so
pub known_by_kind : (n : ℕ) (b : Bool) {t : Bool} → t ≡ known_size wide_kind n → t ≡ b
    → known_size (cond b wide_kind narrow_kind) n ≡ known_size (kind_for n) n
known_by_kind n b e f = ap (λ (x : Bool). known_size (cond x wide_kind narrow_kind) n) (sym f ∙ e)

-- where nothing is refused
pub one_call_writes : (n : ℕ) (m out : List ℕ) → Known n → length m ≤ limit → n / 8 ≤ length out
    → (one_call_answer n m out ≡ Ok (n / 8)) × (one_call_out n m out ≡ digest_for n m ++ drop (n / 8) out)
one_call_writes n m out e h g =
    let a : one_call_answer n m out ≡ Ok (n / 8) = rw (e, le-leb (length m) limit h, le-leb (n / 8) (length out) g) refl in
    (a, ap (λ (r : Answer). outcome r (digest_for n m ++ drop (n / 8) out) out) a)

pub four_sizes : FourSizes
four_sizes = record { sizes = λ n. either n (known_size wide_kind n) refl }
  where
    right : (a : Bool) → true ≡ (a || true)
    right true = refl
    right false = refl

    none : (a : Bool) → a ≡ (a || false)
    none true = refl
    none false = refl

    either : (n : ℕ) (b : Bool) → known_size wide_kind n ≡ b → known_size (cond b wide_kind narrow_kind) n ≡ (known_size narrow_kind n || b)
    either n true e = e ∙ right (known_size narrow_kind n)
    either n false e = none (known_size narrow_kind n)
