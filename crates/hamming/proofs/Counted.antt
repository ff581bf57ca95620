-- What a success writes and answers.
use Rattle.std.specs.Prelude.{Ok}
use mathlib.Core.Path.{◌≡◌, ap, sym, ◌∙◌}
use mathlib.Core.Bool.{true}
use mathlib.Core.List.{List, ◌++◌}
use Prim.Native.Nat.{ℕ, ◌≤◌, ◌<◌}
use native.Mathlib.Nat.{zero-add}
use native.Mathlib.Omega.{arith}
use borrow.Author.Tests.{leb-true}
use lib.Dec.{leb}
use lib.ListN.{length, get_or, take, drop, length-append, length-drop, get_or-append}
use lib.Seq.{take_at, drop_at}
use Rattle.answer.specs.Answer.{Answer}
use Rattle.answer.specs.declared.Refusal.TheVariants.{Pairs, Output}
use Rattle.answer.specs.Refuse.{is_done, outcome}
use Rattle.answer.proofs.Refuse.{unless_done}
use Rattle.memory.specs.Lists.{total}
use Rattle.hamming.specs.Counts.{flipped_bits, pair_count, flipped_counts, whole_pairs, flipped_answer, counts_after}
use Rattle.hamming.specs.Counted.{SuccessCounts}
use Rattle.hamming.proofs.Counts.{counts_length, counts_get, flipped_le, total_le}
use Rattle.hamming.proofs.Tests.{whole, accepted}

module _ (s l : List ℕ) (d : is_done (flipped_answer s (length l)) ≡ true) where
  abbrev n : ℕ
  n = pair_count (length s)

  tests : (whole_pairs (length s) ≡ true) × (leb n (length l) ≡ true)
  tests =
      let a = unless_done (whole_pairs (length s)) Pairs _ d in
      let b = unless_done (leb n (length l)) Output _ a.1 in
      (a.0, b.0)

  pub few : length s ≤ 65536
  few = (whole (length s) tests.0).1

  pub room : n ≤ length l
  room = leb-true n (length l) tests.1

  pub done : flipped_answer s (length l) ≡ Ok (total (flipped_counts s))
  done = accepted s (length l) tests.0 tests.1

  after : counts_after s l ≡ flipped_counts s ++ drop n l
  after = ap (λ (a : Answer). outcome a (flipped_counts s ++ drop n l) l) done

  pub written : take n (counts_after s l) ≡ flipped_counts s
  written = ap (take n) after ∙ take_at (flipped_counts s) (drop n l) n (counts_length s 0 n)

  own : (k : ℕ) → k < n → get_or (counts_after s l) k 0 ≡ flipped_bits s k
  own k h =
      ap (λ (t : List ℕ). get_or t k 0) after ∙ get_or-append (flipped_counts s) (drop n l) 0 k (omega (arith, h, counts_length s 0 n))
      ∙ counts_get s 0 n k h ∙ ap (flipped_bits s) (zero-add k)

  pub size : length (counts_after s l) ≡ length l
  size = ap length after ∙ length-append (flipped_counts s) (drop n l) ∙ omega (arith, counts_length s 0 n, length-drop n l, room)

pub success_counts : SuccessCounts
success_counts s l d = record {
  size = size s l d;
  own = own s l d;
  most = λ k h. rw (own s l d k h) (flipped_le s k);
  behind =
      ap (drop (pair_count (length s))) (after s l d)
      ∙ drop_at (flipped_counts s) (drop (pair_count (length s)) l) (pair_count (length s)) (counts_length s 0 (pair_count (length s)));
  sum = done s l d ∙ ap (λ (t : List ℕ). Ok (total t)) (sym (written s l d));
  sum_most = omega (arith, total_le s 0 (pair_count (length s)), few s l d);
}
