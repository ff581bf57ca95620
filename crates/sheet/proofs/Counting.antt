-- The units that reading tells, and those that a run answers.
use Rattle.std.specs.Prelude.{Ok, Err, Some, None}
use mathlib.Core.Path.{◌≡◌, refl, sym, ap, subst, ◌∙◌}
use mathlib.Core.Bool.{true, false, ◌||◌}
use mathlib.Core.List.{List, map, sum, sum-reverse, reverse}
use Prim.Native.Nat.{ℕ, ◌+◌, ◌≤◌}
use native.Mathlib.Nat.{zero-add, add_assoc, add_comm}
use native.Mathlib.Omega.{arith}
use borrow.Author.Tests.{eqb-true, eqb-false, ltb-true, ltb-false}
use lib.Dec.{eqb, leb, ltb}
use lib.ListN.{length, get_or}
use Rattle.answer.specs.Answer.{Answer}
use Rattle.answer.proofs.Tests.{split, neither}
use Rattle.invertible.proofs.Invertible.{each, map_reverse, map_same}
use Rattle.quasigroup.specs.Tables.{known_width}
use Rattle.quasigroup.proofs.Widths.{of_known}
use Rattle.sheet.specs.declared.Places.{Places}
use Rattle.sheet.specs.declared.Command.{Command}
use Rattle.sheet.specs.declared.Command.TheVariants.{Lmul, Rmul, Ldiv, Rdiv, Swap, Flip, Kmul, Kdiv}
use Rattle.sheet.specs.Read.{Read, place_count, size_of, got, two_places, one_place, read_among, read_at}
use Rattle.sheet.specs.Units.{units}
use Rattle.sheet.specs.Sheet.{Sound, plan_of}
use Rattle.sheet.specs.Work.{units_in, units_at, total_units}
use Rattle.invertible.specs.RoundTrip.{Direction, Forward, Backward}
use Rattle.sheet.specs.Counting.{ReadUnits, ReadingTells, UndoneAlike, units_done, run_units, RunUnits, RunsCount}
use Rattle.sheet.proofs.SheetAnswer.{by_tests}
use Rattle.sheet.proofs.Checked.{sound_units}

-- ---- what reading tells

-- of what was read where the byte b stands
abbrev Told : ℕ → Read → Type 0
Told b (Ok (Some d)) = ReadUnits b d
Told b (Err r) = Unit {0}
Told b (Ok None) = Unit {0}

module _ (b n : ℕ) where
  counts : (c : Command) → units c ≡ 1 → (b ≡ 5 → ⊥) → (b ≡ 6 → ⊥) → Told b (got c n)
  counts c e h k = record { of_command = refl; of_swap = λ p. absurd (h p); of_flip = λ p. absurd (k p); of_others = λ _ _. e }

  counts_nothing : (c : Command) → units c ≡ 0 → ((b ≡ 5 → ⊥) → b ≡ 6) → Told b (got c n)
  counts_nothing c e h = record { of_command = refl; of_swap = λ _. e; of_flip = λ _. e; of_others = λ p q. absurd (q (h p)) }

  -- where b is k, of 01 to 04; and where it is none of those up to k
  counts_by : (c : Command) (k : ℕ) → units c ≡ 1 → k ≤ 4 → eqb b k ≡ true → Told b (got c n)
  counts_by c k e l h = let q : b ≡ k = eqb-true b k h in counts c e (λ p. omega arith) (λ p. omega arith)

  above : (k : ℕ) → k ≤ b → eqb b k ≡ false → k + 1 ≤ b
  above k l h = let q : b ≡ k → ⊥ = eqb-false b k h in omega arith

  two_told : 1 ≤ b → ltb b 6 ≡ true → (p : Places) → Told b (two_places b p n)
  two_told z l p =
      let P : Command → Type 0 = λ c. Told b (got c n) in
      split (Told b) (leb place_count p.d || leb place_count p.s) _ _ (λ _. tt) λ _.
      split (Told b) (eqb p.d p.s) _ _ (λ _. tt) λ _.
      split P (eqb b 1) _ _ (counts_by (Lmul p) 1 refl (omega arith)) λ e₁.
      split P (eqb b 2) _ _ (counts_by (Rmul p) 2 refl (omega arith)) λ e₂.
      split P (eqb b 3) _ _ (counts_by (Ldiv p) 3 refl (omega arith)) λ e₃.
      split P (eqb b 4) _ _ (counts_by (Rdiv p) 4 refl (omega arith)) λ e₄.
      let five : 5 ≤ b = above 4 (above 3 (above 2 (above 1 z e₁) e₂) e₃) e₄ in
      counts_nothing (Swap p) refl (λ h. omega (arith, ltb-true b 6 l))

  one_told : ltb b 6 ≡ false → (d k : ℕ) → Told b (one_place b d k n)
  one_told l d k =
      let P : Command → Type 0 = λ c. Told b (got c n) in
      let h : b ≡ 5 → ⊥ = λ e. omega (arith, ltb-false b 6 l) in
      split (Told b) (leb place_count d) _ _ (λ _. tt) λ _.
      split P (eqb b 6) _ _ (λ e. counts_nothing (Flip d) refl (λ _. eqb-true b 6 e)) λ e.
      split P (eqb b 7) _ _ (λ _. counts (Kmul d k) refl h (eqb-false b 6 e)) (λ _. counts (Kdiv d k) refl h (eqb-false b 6 e))

told : (w : ℕ) (s : List ℕ) (i : ℕ) → Told (get_or s i 0) (read_at w s i)
unfolding read_among
told w s i =
    let b = get_or s i 0 in
    split (Told b) (leb (length s) i) _ _ (λ _. tt) λ _.
    split (Told b) (eqb b 0 || ltb 8 b) _ _ (λ _. tt) λ z.
    split (Told b) (ltb (length s) (i + size_of w b)) _ _ (λ _. tt) λ _.
    let one : 1 ≤ b = above b 0 0 (omega arith) (neither (eqb b 0) (ltb 8 b) z).0 in
    split (Told b) (ltb b 6) _ _ (λ l. two_told b (i + size_of w b) one l (record { d = get_or s (i + 1) 0; s = get_or s (i + 2) 0 }))
    (λ l. one_told b (i + size_of w b) l (get_or s (i + 1) 0) (i + 2))

pub reading_tells : ReadingTells
reading_tells w s i d e = subst (Told (get_or s i 0)) e (told w s i)

-- ---- undoing

pub undone_alike : UndoneAlike
undone_alike (Lmul p) = refl
undone_alike (Rmul p) = refl
undone_alike (Ldiv p) = refl
undone_alike (Rdiv p) = refl
undone_alike (Swap p) = refl
undone_alike (Flip d) = refl
undone_alike (Kmul d k) = refl
undone_alike (Kdiv d k) = refl

done_with : (g : Direction) (b : ℕ) (r : Read) → Told b r → units_done g r ≡ units_in r
done_with Forward b (Ok (Some d)) h = sym h.of_command
done_with Backward b (Ok (Some d)) h = undone_alike d.command ∙ sym h.of_command
done_with g b (Err r) h = refl
done_with g b (Ok None) h = refl

-- ---- runs

module _ (w : ℕ) (s : List ℕ) where
  done_at : (g : Direction) (i : ℕ) → units_done g (read_at w s i) ≡ units_at w s i
  done_at g i = done_with g (get_or s i 0) (read_at w s i) (told w s i)

  -- a run in either direction does what the check of its sheet counts
  either_run : (g : Direction) → total_units w s (plan_of w s).offsets ≡ run_units g w s
  either_run Forward = ap (sum ◌+◌ 0) (sym (map_same (each (done_at Forward) (plan_of w s).offsets)))
  either_run Backward =
      let l = (plan_of w s).offsets in
      sym (sum-reverse ◌+◌ 0 zero-add add_assoc add_comm (map (units_at w s) l))
      ∙ ap (sum ◌+◌ 0) (sym (map_reverse (units_at w s) l))
      ∙ ap (sum ◌+◌ 0) (sym (map_same (each (done_at Backward) (reverse l))))

  pub few_run : known_width w ≡ true → (plan_of w s).outcome ≡ Sound → total_units w s (plan_of w s).offsets ≤ 1365
  few_run k e = sound_units w s e (of_known (λ w. 1 ≤ w) (omega arith) (omega arith) w k)

pub runs_count : RunsCount
runs_count g w s b n =
    by_tests place_count w _ s _ (λ (a : Answer). a ≡ Ok n → RunUnits g w s n)
    (λ _ e. let z : ◌≡◌ {A = ℕ} 0 1 = cc in absurd (omega arith))
    (λ _ e. let z : ◌≡◌ {A = ℕ} 0 1 = cc in absurd (omega arith))
    (λ r i _ e. let z : ◌≡◌ {A = ℕ} 0 1 = cc in absurd (omega arith))
    λ p e.
    let t : n ≡ total_units w s (plan_of w s).offsets = cc in
    record { done = t ∙ either_run w s g; most = omega (arith, few_run w s p.width p.sheet) }
