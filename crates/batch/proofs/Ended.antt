-- What the code of the call answers and leaves once its tests have come out.
use Rattle.std.specs.Prelude.{Ok}
use mathlib.Core.Path.{◌≡◌, sym, ap, ◌∙◌}
use mathlib.Core.Bool.{Bool, true, false, not}
use mathlib.Core.List.{List, ◌++◌}
use Prim.Native.Nat.{ℕ, ◌≤◌, ◌<◌}
use borrow.Author.Tests.{leb-true, not-true, not-false, le-leb, lt-leb}
use lib.Dec.{eqb, leb}
use lib.ListN.{length, drop}
use Rattle.answer.specs.Answer.{Answer, refused_at}
use Rattle.answer.specs.declared.Refusal.TheVariants.{Size, MessageCount, JoinedLength, Output}
use Rattle.answer.specs.Refuse.{is_done}
use Rattle.answer.proofs.Tests.{goes_on, stops}
use Rattle.answer.proofs.Outcome.{ends_refused, ends_done}
use Rattle.memory.specs.Lists.{total}
use Rattle.digest.specs.Kind.{known_size, kind_for, Known}
use Rattle.batch.specs.Batch.{messages, digests, digests_length, batch_answer, batch_out}
use Rattle.batch.proofs.Tests.{Accepted, accepted, unknown_size, too_many, other_sum, no_room, done}
use Rattle.batch.proofs.Fitting.{digests_bound}
use Rattle.batch.proofs.Sums.{Sum, of_all}

-- ---- the answer, test by test: t and m are what the code found of the size and of the sum
module _ (n joined : ℕ) (ns : List ℕ) (room : ℕ) {t : Bool} (e : t ≡ known_size (kind_for n) n) {m : ℕ} (d : Sum ns m) where
  abbrev l : ℕ
  l = digests_length n (length ns)

  pub ends_unknown : not t ≡ true → refused_at Size 0 ≡ batch_answer n joined ns room
  ends_unknown h = sym (unknown_size n joined ns room (stops e h))

  module _ (h : not t ≡ false) where
    pub ends_many : not (leb (length ns) 1024) ≡ true → refused_at MessageCount 0 ≡ batch_answer n joined ns room
    ends_many g = sym (too_many n joined ns room (goes_on e h) (not-true (leb (length ns) 1024) g))

    module _ (g : not (leb (length ns) 1024) ≡ false) where
      few : leb (length ns) 1024 ≡ true
      few = not-false (leb (length ns) 1024) g

      sum_is : eqb m joined ≡ eqb (total ns) joined
      sum_is = ap (λ (x : ℕ). eqb x joined) (of_all ns d few)

      pub few_bytes : l ≤ 65536
      few_bytes = digests_bound n (length ns) (goes_on e h) (leb-true (length ns) 1024 few)

      pub ends_other : not (eqb m joined) ≡ true → refused_at JoinedLength 0 ≡ batch_answer n joined ns room
      ends_other f = sym (other_sum n joined ns room (goes_on e h) few (stops sum_is f))

      module _ (f : not (eqb m joined) ≡ false) where
        pub ends_short : room < l → refused_at Output 0 ≡ batch_answer n joined ns room
        ends_short r = sym (no_room n joined ns room (goes_on e h) few (goes_on sum_is f) (lt-leb l room r))

        pub ends_room : l ≤ room → Ok l ≡ batch_answer n joined ns room
        ends_room r = sym (done n joined ns room (goes_on e h) few (goes_on sum_is f) (le-leb l room r))

-- ---- the call, by its answer
module _ (n : ℕ) (s ns out : List ℕ) {r : Answer} (e : r ≡ batch_answer n (length s) ns (length out)) {t : Bool} (d : t ≡ is_done r) where
  abbrev new : List ℕ
  new = digests n (messages s ns) ++ drop (digests_length n (length ns)) out

  -- the call returns r and leaves `last`
  abbrev Ended : List ℕ → Type 0
  Ended last = (r ≡ batch_answer n (length s) ns (length out)) × (last ≡ batch_out n s ns out)

  pub refused : not t ≡ true → Ended out
  refused h = ends_refused new out e d h

  module _ (h : not t ≡ false) where
    pub asked : Known n × (total ns ≡ length s) × (digests_length n (length ns) ≤ length out)
    asked =
        let a : Accepted n (length s) ns (length out) = accepted n (length s) ns (length out) (ap is_done (sym e) ∙ goes_on d h) in
        (a.known, a.sums, a.fits)

    pub written : {last : List ℕ} → last ≡ new → Ended last
    written g = ends_done new out e d h g
