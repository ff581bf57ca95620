-- The tests of the call, and its answer once they have come out.
use Rattle.std.specs.Prelude.{Ok}
use mathlib.Core.Path.{◌≡◌, refl}
use mathlib.Core.Bool.{true, false}
use mathlib.Core.List.{List}
use Prim.Native.Nat.{ℕ, ◌≤◌}
use borrow.Author.Tests.{eqb-true, leb-true, eq-eqb, le-leb}
use lib.Dec.{eqb, leb}
use lib.ListN.{length}
use Rattle.answer.specs.Answer.{refused_at}
use Rattle.answer.specs.declared.Refusal.TheVariants.{Size, MessageCount, JoinedLength, Output}
use Rattle.answer.specs.Refuse.{is_done}
use Rattle.answer.proofs.Refuse.{unless_done}
use Rattle.memory.specs.Lists.{total}
use Rattle.digest.specs.Kind.{known_size, kind_for, Known}
use Rattle.batch.specs.Batch.{digests_length, batch_answer}

module _ (n joined : ℕ) (ns : List ℕ) (room : ℕ) where
  -- no refusal's condition holds
  pub record Accepted : Type 0 where
    pub known : Known n
    pub few : length ns ≤ 1024
    pub sums : total ns ≡ joined
    pub fits : digests_length n (length ns) ≤ room

  pub accepted : is_done (batch_answer n joined ns room) ≡ true → Accepted
  accepted d =
      let a = unless_done (known_size (kind_for n) n) Size _ d in
      let b = unless_done (leb (length ns) 1024) MessageCount _ a.1 in
      let c = unless_done (eqb (total ns) joined) JoinedLength _ b.1 in
      let e = unless_done (leb (digests_length n (length ns)) room) Output _ c.1 in
      record { known = a.0; few = leb-true _ _ b.0; sums = eqb-true _ _ c.0; fits = leb-true _ _ e.0 }

  pub unknown_size : known_size (kind_for n) n ≡ false → batch_answer n joined ns room ≡ refused_at Size 0
  unknown_size e = rw e refl

  module _ (k : Known n) where
    pub too_many : leb (length ns) 1024 ≡ false → batch_answer n joined ns room ≡ refused_at MessageCount 0
    too_many e = rw (k, e) refl

    module _ (f : leb (length ns) 1024 ≡ true) where
      pub other_sum : eqb (total ns) joined ≡ false → batch_answer n joined ns room ≡ refused_at JoinedLength 0
      other_sum e = rw (k, f, e) refl

      module _ (j : eqb (total ns) joined ≡ true) where
        pub no_room : leb (digests_length n (length ns)) room ≡ false → batch_answer n joined ns room ≡ refused_at Output 0
        no_room e = rw (k, f, j, e) refl

        pub done : leb (digests_length n (length ns)) room ≡ true → batch_answer n joined ns room ≡ Ok (digests_length n (length ns))
        done e = rw (k, f, j, e) refl

  pub answered : Accepted → batch_answer n joined ns room ≡ Ok (digests_length n (length ns))
  answered a =
      done a.known (le-leb (length ns) 1024 a.few) (eq-eqb (total ns) joined a.sums) (le-leb (digests_length n (length ns)) room a.fits)
