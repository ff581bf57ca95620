-- A digest has at most 64 bytes, a total is at most 2^61 - 1, and refusals of a hash have the offset 0.
use Rattle.std.specs.Prelude.{Ok}
use mathlib.Core.Bool.{Bool, true, false, cond}
use mathlib.Core.List.{List}
use Prim.Native.Nat.{ℕ, ◌+◌, ◌/◌, ◌^◌, ◌≤◌}
use native.Mathlib.Omega.{arith}
use borrow.Author.Tests.{leb-true}
use lib.Dec.{leb, lit≤}
use lib.ListN.{length}
use mathlib.Core.Path.{◌≡◌}
use Rattle.answer.specs.declared.Refusal.TheVariants.{Size, State, Length, Output, BitCount}
use Rattle.answer.specs.Injective.{Fits}
use Rattle.answer.proofs.Injective.{fits_unless}
use Rattle.digest.specs.Refusals.{limit, is_size, delivering}
use Rattle.digest.specs.Kind.{Kind, known_size, narrow_kind, wide_kind}
use Rattle.digest.specs.State.{formed}
use Rattle.digest.specs.OneCall.{digest_answer}
use Rattle.digest.specs.Fitting.{OneCallFits, PiecesFit}
use Rattle.digest.proofs.Answers.{size_bound}
use Rattle.answer.proofs.Tests.{both_true}

module _ (k : Kind) (p : k.small ≤ 512) (q : k.large ≤ 512) where
  delivering_fits : (n : ℕ) (out : List ℕ) → is_size k.small k.large n ≡ true → Fits (2 ^ 32) (delivering n (length out))
  delivering_fits n out e =
      fits_unless (2 ^ 32) (leb (n / 8) (length out)) Output (Ok (n / 8)) λ _.
      omega (arith, size_bound k.small k.large n 512 p q e)

  digest_fits : (n : ℕ) (m out : List ℕ) → Fits (2 ^ 32) (digest_answer k n m out)
  digest_fits n m out =
      fits_unless (2 ^ 32) (is_size k.small k.large n) Size _ λ e.
      fits_unless (2 ^ 32) (leb (length m) limit) Length (delivering n (length out)) λ _.
      delivering_fits n out e

  pieces_fit : PiecesFit k
  pieces_fit =
      record {
        opening = λ n. fits_unless (2 ^ 32) (is_size k.small k.large n) Size (Ok 0) (λ _. lit≤ tt);
        feeding = λ h s. fits_unless (2 ^ 63) (formed k h) State _ (λ _.
            fits_unless (2 ^ 63) (leb (h.total + length s) limit) Length _ (λ e.
            let l : h.total + length s ≤ limit = leb-true (h.total + length s) limit e in omega arith));
        finishing = λ h out. fits_unless (2 ^ 32) (formed k h) State _ (λ e.
            delivering_fits h.size out (both_true (is_size k.small k.large h.size) (leb h.total limit) e).0);
        finishing_bits = λ h count out. fits_unless (2 ^ 32) (formed k h) State _ (λ e.
            fits_unless (2 ^ 32) (leb count 7) BitCount _ (λ _.
            delivering_fits h.size out (both_true (is_size k.small k.large h.size) (leb h.total limit) e).0));
      }

either_fits : (b : Bool) (n : ℕ) (m out : List ℕ) → Fits (2 ^ 32) (digest_answer (cond b wide_kind narrow_kind) n m out)
either_fits true = digest_fits wide_kind (omega arith) (omega arith)
either_fits false = digest_fits narrow_kind (omega arith) (omega arith)

pub one_call_fits : OneCallFits
one_call_fits n = either_fits (known_size wide_kind n) n

pub narrow_pieces_fit : PiecesFit narrow_kind
narrow_pieces_fit = pieces_fit narrow_kind (lit≤ tt) (lit≤ tt)

pub wide_pieces_fit : PiecesFit wide_kind
wide_pieces_fit = pieces_fit wide_kind (lit≤ tt) (lit≤ tt)
