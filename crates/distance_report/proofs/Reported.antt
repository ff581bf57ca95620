-- A report by what the call answered, which was lent zeros.
use Rattle.std.specs.Prelude.{Ok}
use mathlib.Core.Path.{◌≡◌, ap, sym, ◌∙◌}
use mathlib.Core.Bool.{true}
use mathlib.Core.List.{List, [], ◌∷◌, ◌++◌}
use Prim.Native.Nat.{ℕ, ◌≤◌}
use native.Mathlib.Omega.{arith}
use lib.ListN.{length, take, replicate, length-replicate}
use Rattle.answer.specs.Answer.{Answer, refused_at}
use Rattle.answer.specs.declared.Refusal.{Refusal}
use Rattle.answer.specs.Refuse.{is_done}
use Rattle.hamming.specs.Counts.{pair_count, flipped_counts, flipped_answer, counts_after}
use Rattle.hamming.proofs.Counts.{counts_length}
use Rattle.hamming.proofs.Counted.{room, size, written}
use Rattle.text.specs.Label.{refused}
use Rattle.distance_report.specs.Report.{lines, total_line, told, report}

abbrev zeros : List ℕ
zeros = replicate 1024 0

places : length zeros ≡ 1024
places = length-replicate {A = ℕ} 1024 0

module _ (s : List ℕ) where
  answered : {a : Answer} → a ≡ flipped_answer s (length zeros) → told (flipped_counts s) a ≡ report s
  answered e = ap (told (flipped_counts s)) (e ∙ ap (flipped_answer s) places)

  pub reported_refusal : (r : Refusal) (i : ℕ) → refused_at r i ≡ flipped_answer s (length zeros) → refused r ++ (10 ∷ []) ≡ report s
  reported_refusal r i e = answered e

  -- a success, with the sum m, left `last`
  module _ (m : ℕ) (last : List ℕ) (e : Ok m ≡ flipped_answer s (length zeros)) (f : last ≡ counts_after s zeros) where
    abbrev n : ℕ
    n = pair_count (length s)

    success : is_done (flipped_answer s (length zeros)) ≡ true
    success = ap is_done (sym e)

    counts : take n last ≡ flipped_counts s
    counts = ap (take n) f ∙ written s zeros success

    pub within : n ≤ length last
    within = omega (arith, room s zeros success, size s zeros success, ap length f)

    pub taken : n ≡ length (take n last)
    taken = sym (ap length counts ∙ counts_length s 0 n)

    pub few : length (take n last) ≤ 1024
    few = omega (arith, room s zeros success, taken, places)

    pub reported : lines 1 (take n last) ++ total_line m ≡ report s
    reported = ap (λ (c : List ℕ). lines 1 c ++ total_line m) counts ∙ answered e
