-- What a call knows and leaves once its tests have answered, for any of the operations.
use mathlib.Core.Path.{◌≡◌, sym}
use mathlib.Core.Bool.{Bool, true, false, not}
use mathlib.Core.List.{List, ◌++◌}
use Prim.Native.Nat.{ℕ, ◌≤◌}
use native.Mathlib.Omega.{arith}
use lib.ListN.{length, drop}
use Rattle.answer.specs.Answer.{Answer}
use Rattle.answer.specs.Refuse.{is_done}
use Rattle.answer.proofs.Tests.{goes_on}
use Rattle.answer.proofs.Outcome.{ends_refused, ends_done}
use Rattle.quasigroup.specs.Tables.{Width}
use Rattle.operands.specs.Operation.{answer_for, on_bytes, output_after}
use Rattle.operands.proofs.Tests.{success}

module _ (op : Width → List ℕ → List ℕ → List ℕ) (w : ℕ) (x y out : List ℕ) (r : Answer) where
  -- the call returns r and leaves `last`
  abbrev Ended : List ℕ → Type 0
  Ended last = (r ≡ answer_for w x y out) × (last ≡ output_after op w x y out)

  -- the tests are passed: what the function of width k asks for, and what is left when it is done
  pub record Passed : Type 0 where
    pub other : (w ≡ 32 → ⊥) → w ≡ 64
    pub fits : (k : ℕ) → w ≡ k → (k ≤ length x) × (k ≤ length y) × (k ≤ length out)
    pub written : (k : ℕ) → w ≡ k → (last : List ℕ) → last ≡ on_bytes op k x y ++ drop k out → Ended last

  module _ (e : r ≡ answer_for w x y out) {done : Bool} (d : done ≡ is_done r) where
    pub refused : not done ≡ true → Ended out
    refused = ends_refused (on_bytes op w x y ++ drop w out) out e d

    pub passed : not done ≡ false → Passed
    passed n =
        let s = success w x y out r e (goes_on d n) in
        record {
          other = s.other;
          fits = λ k h. (omega arith, omega arith, omega arith);
          written = λ k h last g. ends_done (on_bytes op w x y ++ drop w out) out e d n (rw (sym h) at g);
        }
