-- What the call refuses.
use mathlib.Core.Path.{refl, sym}
use mathlib.Core.List.{◌++◌, sum}
use native.Mathlib.Omega.{arith}
use borrow.Author.Tests.{le-leb, lt-leb}
use lib.ListN.{length, drop}
use Rattle.answer.proofs.Refuse.{refused_outcome}
use Rattle.hamming.specs.Counts.{pair_count, flipped_counts, flipped_answer}
use Rattle.hamming.specs.Refusals.{CountingRefuses}
use Rattle.hamming.proofs.Tests.{is_whole, is_partial, is_long, not_whole, no_room, accepted}

pub counting_refuses : CountingRefuses
unfolding sum
counting_refuses s l =
    let m = length s in
    let n = length l in
    record {
      partial = λ h. not_whole s n (is_partial m h);
      long = λ h. not_whole s n (is_long m h);
      short = λ h g k. no_room s n (is_whole m h g) (lt-leb (pair_count m) n k);
      others = λ h g k. accepted s n (is_whole m h g) (le-leb (pair_count m) n k);
      none = rw (le-leb 0 n (omega arith)) refl;
      unchanged = λ d. sym (refused_outcome (flipped_answer s n) (flipped_counts s ++ drop (pair_count m) l) l d);
    }
