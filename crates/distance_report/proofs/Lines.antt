-- The lines of the records, one after the other.
use mathlib.Core.Path.{◌≡◌, ap, sym, ◌∙◌}
use mathlib.Core.List.{List, ◌++◌}
use Prim.Native.Nat.{ℕ, ◌+◌, ◌<◌, ◌≤◌}
use native.Mathlib.Numerals.{add-one}
use lib.ListN.{length, get_or, drop, drop_of_length-le}
use Rattle.text.specs.Pushed.{Pushed}
use Rattle.text.proofs.Partly.{Partly, rest_begins, one_more, all_stored}
use Rattle.distance_report.specs.Report.{line, lines}

-- the lines of the records from record k on, k from 0 on
abbrev pub rest : List ℕ → ℕ → List ℕ
rest c k = lines (k + 1) (drop k c)

module _ (c : List ℕ) {l₀ l : List ℕ} {next : ℕ} (k : ℕ) (now : Partly l₀ 0 (lines 1 c) l next (rest c k)) where
  pub lines_more : (m : List ℕ) (j : ℕ) → k < length c → Pushed l next (line (k + 1) (get_or c k 0)) m j → Partly l₀ 0 (lines 1 c) m j (rest c (k + 1))
  lines_more m j h p = one_more (rest c k) (line (k + 1) (get_or c k 0)) (rest c (k + 1)) now (first_line h) p
    where
      first_line : k < length c → rest c k ≡ line (k + 1) (get_or c k 0) ++ rest c (k + 1)
      first_line h =
          ap (lines (k + 1)) (rest_begins c k h) ∙ ap (λ (i : ℕ). line (k + 1) (get_or c k 0) ++ lines i (drop (k + 1) c)) (sym (add-one (k + 1)))

  pub lines_end : length c ≤ k → Pushed l₀ 0 (lines 1 c) l next
  lines_end h = all_stored (rest c k) now (ap (lines (k + 1)) (drop_of_length-le c h))
