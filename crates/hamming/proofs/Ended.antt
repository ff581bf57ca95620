-- What the code of the call leaves once its tests have come out.
use Rattle.std.specs.Prelude.{Ok}
use mathlib.Core.Path.{◌≡◌, refl, ap, sym, ◌∙◌}
use mathlib.Core.Bool.{Bool, true, false, not}
use mathlib.Core.List.{List, ◌++◌}
use Prim.Native.Nat.{ℕ, ◌≤◌}
use borrow.Author.Tests.{leb-true, not-true, not-false}
use lib.Dec.{leb}
use lib.ListN.{length, drop}
use Rattle.answer.specs.Answer.{Answer, refused_at}
use Rattle.answer.specs.declared.Refusal.TheVariants.{Pairs, Output}
use Rattle.answer.specs.Refuse.{outcome}
use Rattle.answer.proofs.Tests.{goes_on, stops}
use Rattle.memory.specs.Lists.{total}
use Rattle.hamming.specs.Counts.{pair_count, flipped_counts, whole_pairs, flipped_answer, counts_after}
use Rattle.hamming.proofs.Tests.{whole, not_whole, no_room, accepted}

module _ (s l : List ℕ) where
  abbrev n : ℕ
  n = pair_count (length s)

  -- the call returns r and leaves `last`
  abbrev Ended : Answer → List ℕ → Type 0
  Ended r last = (r ≡ flipped_answer s (length l)) × (last ≡ counts_after s l)

  ended : {r : Answer} {last : List ℕ} → flipped_answer s (length l) ≡ r → last ≡ outcome r (flipped_counts s ++ drop n l) l → Ended r last
  ended e f = (sym e, rw e f)

  module _ {t : Bool} (e : t ≡ whole_pairs (length s)) where
    pub ends_not_whole : not t ≡ true → Ended (refused_at Pairs 0) l
    ends_not_whole h = ended (not_whole s (length l) (stops e h)) refl

    module _ (h : not t ≡ false) where
      pub ends_short : not (leb n (length l)) ≡ true → Ended (refused_at Output 0) l
      ends_short g = ended (no_room s (length l) (goes_on e h) (not-true (leb n (length l)) g)) refl

      module _ (g : not (leb n (length l)) ≡ false) where
        pub asked : (length s ≤ 65536) × (n ≤ length l)
        asked = ((whole (length s) (goes_on e h)).1, leb-true n (length l) (not-false (leb n (length l)) g))

        pub ends_counted : {m : ℕ} {last : List ℕ} → m ≡ total (flipped_counts s) → last ≡ flipped_counts s ++ drop n l → Ended (Ok m) last
        ends_counted f k = ended (accepted s (length l) (goes_on e h) (not-false (leb n (length l)) g) ∙ ap Ok (sym f)) k
