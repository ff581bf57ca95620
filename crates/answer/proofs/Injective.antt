-- Numbers are injective: a refusal is found again from its number.
use Rattle.std.specs.Prelude.{Ok, Err}
use mathlib.Core.Path.{◌≡◌, refl, sym, ap, ◌∙◌}
use mathlib.Core.Bool.{Bool, true, cond}
use Prim.Native.Nat.{ℕ, ◌+◌, ◌^◌, ◌<◌, ◌≤◌}
use native.Mathlib.Omega.{arith}
use borrow.Author.Tests.{lt-ltb, le-ltb}
use lib.Dec.{eqb, ltb, lit≤}
use Rattle.answer.specs.Answer.{Answer, refused_at}
use Rattle.answer.specs.declared.Refusal.{Refusal}
use Rattle.answer.specs.declared.Refusal.TheVariants.{Size, State, Length, Output, Width, Operand, Sheet, Opcode, Truncated, Place, SamePlace}
use Rattle.answer.specs.declared.Refusal.TheVariants.{MessageCount, JoinedLength, Start, BitCount, Records, RecordCount, Pairs}
use Rattle.answer.specs.Number.{refusal_number, number_of, marked_number}
use Rattle.answer.specs.Refuse.{unless, is_done}
use Rattle.answer.proofs.Refuse.{unless_cases}
use Rattle.answer.specs.Injective.{Fits, Injective, NumbersInjective}

-- ---- a refusal from its number
abbrev refusal_of : ℕ → Refusal
refusal_of n =
    cond (eqb n 1) Size
    (cond (eqb n 2) State
    (cond (eqb n 3) Length
    (cond (eqb n 4) Output
    (cond (eqb n 5) Width
    (cond (eqb n 6) Operand
    (cond (eqb n 7) Sheet
    (cond (eqb n 8) Opcode
    (cond (eqb n 9) Truncated
    (cond (eqb n 10) Place
    (cond (eqb n 11) SamePlace
    (cond (eqb n 12) MessageCount
    (cond (eqb n 13) JoinedLength
    (cond (eqb n 14) Start
    (cond (eqb n 15) BitCount
    (cond (eqb n 16) Records
    (cond (eqb n 17) RecordCount Pairs))))))))))))))))

found : (r : Refusal) → refusal_of (refusal_number r) ≡ r
found Size = refl
found State = refl
found Length = refl
found Output = refl
found Width = refl
found Operand = refl
found Sheet = refl
found Opcode = refl
found Truncated = refl
found Place = refl
found SamePlace = refl
found MessageCount = refl
found JoinedLength = refl
found Start = refl
found BitCount = refl
found Records = refl
found RecordCount = refl
found Pairs = refl

refusal_one : (r s : Refusal) → refusal_number r ≡ refusal_number s → r ≡ s
refusal_one r s e = sym (found r) ∙ ap refusal_of e ∙ found s

positive : (r : Refusal) → 0 < refusal_number r
positive Size = lit≤ tt
positive State = lit≤ tt
positive Length = lit≤ tt
positive Output = lit≤ tt
positive Width = lit≤ tt
positive Operand = lit≤ tt
positive Sheet = lit≤ tt
positive Opcode = lit≤ tt
positive Truncated = lit≤ tt
positive Place = lit≤ tt
positive SamePlace = lit≤ tt
positive MessageCount = lit≤ tt
positive JoinedLength = lit≤ tt
positive Start = lit≤ tt
positive BitCount = lit≤ tt
positive Records = lit≤ tt
positive RecordCount = lit≤ tt
positive Pairs = lit≤ tt

refused_one : (r s : Refusal) (i j : ℕ) → i < 2 ^ 32 → j < 2 ^ 32 → number_of (refused_at r i) ≡ number_of (refused_at s j)
    → ◌≡◌ {A = Answer} (refused_at r i) (refused_at s j)
refused_one r s i j p q e =
    let f : refusal_number r ≡ refusal_number s = omega arith in
    let g : i ≡ j = omega arith in
    λ t. refused_at (refusal_one r s f t) (g t)

-- a numbering whose successes are their own numbers and whose refusals stand at or above a bound, at a distance from `number_of`
record Numbering (number : Answer → ℕ) (bound mark : ℕ) : Type 0 where
  own : (n : ℕ) → number (Ok n) ≡ n
  apart : (r : Refusal) (at : ℕ) → number (refused_at r at) ≡ mark + number_of (refused_at r at)
  high : (r : Refusal) (at : ℕ) → bound ≤ number (refused_at r at)

module _ (number : Answer → ℕ) (bound mark : ℕ) (h : Numbering number bound mark) where
  one : (a b : Answer) → Fits bound a → Fits bound b → number a ≡ number b → a ≡ b
  one (Ok m) (Ok n) p q e = ap Ok (sym (h.own m) ∙ e ∙ h.own n)
  one (Ok m) (Err err) p q e = absurd (omega (arith, h.own m, h.high err.refusal err.offset))
  one (Err err) (Ok n) p q e = absurd (omega (arith, h.own n, h.high err.refusal err.offset))
  one (Err err) (Err err2) p q e = refused_one err.refusal err2.refusal err.offset err2.offset p q (omega (arith, h.apart err.refusal err.offset, h.apart err2.refusal err2.offset))

  refusal_tested : (a : Answer) → Fits bound a → is_done a ≡ ltb (number a) bound
  refusal_tested (Ok n) p = sym (lt-ltb (number (Ok n)) bound (omega (arith, h.own n)))
  refusal_tested (Err err) p = sym (le-ltb (number (Err err)) bound (h.high err.refusal err.offset))

  injective : Injective number bound
  injective = record { answer = one; refusal = refusal_tested }

pub numbers_injective : NumbersInjective
numbers_injective =
    record {
      plain = injective number_of (2 ^ 32) 0 (record { own = λ n. refl; apart = λ r at. omega arith; high = λ r at. omega (arith, positive r) });
      marked = injective marked_number (2 ^ 63) (2 ^ 63) (record { own = λ n. refl; apart = λ r at. refl; high = λ r at. omega arith });
    }

-- what fits behind a refusal that is tested first
pub fits_unless : (bound : ℕ) (t : Bool) (r : Refusal) (a : Answer) → (t ≡ true → Fits bound a) → Fits bound (unless t r a)
fits_unless bound t r a f = unless_cases (Fits bound) t r a (λ _. lit≤ tt) f
