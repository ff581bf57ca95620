-- What is printed for no records, for bytes that are refused, and for records.
use mathlib.Core.Path.{◌≡◌, refl, ap, ap₂, sym, ◌∙◌}
use mathlib.Core.Bool.{false}
use mathlib.Core.List.{List, ◌++◌, sum}
use Prim.Native.Nat.{ℕ, suc, ◌+◌, ◌/◌}
use native.Mathlib.Numerals.{add-one}
use native.Mathlib.Omega.{arith}
use borrow.Author.Tests.{le-leb}
use lib.ListN.{length}
use Rattle.hamming.specs.Counts.{whole_pairs, flipped_bits, counts_from, flipped_counts}
use Rattle.hamming.proofs.Tests.{is_whole, is_partial, is_long, not_whole, accepted}
use Rattle.text.specs.Decimal.{decimal}
use Rattle.distance_report.specs.Report.{line, lines, told, report}
use Rattle.distance_report.specs.Printed.{refused_text, Printed}

refusal : (s : List ℕ) → whole_pairs (length s) ≡ false → report s ≡ refused_text
unfolding decimal
refusal s e = ap (told (flipped_counts s)) (not_whole s 1024 e)

pub printed : Printed
unfolding decimal sum
printed = record {
  none = refl;
  partial = λ s h. refusal s (is_partial (length s) h);
  long = λ s h. refusal s (is_long (length s) h);
  records = λ s h g. ap (told (flipped_counts s)) (accepted s 1024 (is_whole (length s) h g) (le-leb (length s / 64) 1024 (omega arith)));
  each = λ s k n.
      let a : n + 1 ≡ suc n = omega arith in
      let b : suc (k + 1) ≡ k + 2 = omega arith in
      ap (λ (m : ℕ). lines (k + 1) (counts_from s k m)) a
      ∙ ap₂ {C = List ℕ} (λ i j. line (k + 1) (flipped_bits s k) ++ lines i (counts_from s j n)) b (sym (add-one k));
}
