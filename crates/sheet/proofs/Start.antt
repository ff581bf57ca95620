-- The offsets of a sheet's commands: they lie in the sheet; from each on, and from the sheet's end, the commands that remain are the sheet's last ones; and
-- the offsets that a run from 0 reaches are these.
use Rattle.std.specs.Prelude.{Ok, Err, Some, None}
use mathlib.Core.Path.{◌≡◌, refl, sym, ap, subst, ◌∙◌}
use mathlib.Core.Bool.{true, ◌||◌, false≢true}
use mathlib.Core.List.{List, [], ◌∷◌, ◌++◌, append-nil}
use Prim.Native.Nat.{ℕ, zero, suc, ◌≤◌, ◌<◌}
use native.Mathlib.Decide.{dec_le}
use native.Mathlib.Omega.{arith}
use borrow.Author.Tests.{eqb-true, eq-eqb}
use lib.Dec.{eqb}
use lib.ListN.{length, get_or, get_or-eq_default}
use Rattle.answer.proofs.Tests.{decide, either, or_left, or_right}
use Rattle.invertible.specs.Invertible.{Each, none, more}
use Rattle.sheet.specs.Read.{Read, place_count, read_at}
use Rattle.sheet.specs.Sheet.{Sound, Plan, behind, continue, scan_from, plan_of}
use Rattle.sheet.specs.Sound.{SoundRead}
use Rattle.sheet.specs.Enough.{PlanFrom, at_command, at_fault, at_end}
use Rattle.sheet.specs.Progress.{remaining}
use Rattle.sheet.specs.Start.{among, is_start}
use Rattle.sheet.proofs.Sound.{read_sound, got_sound}
use Rattle.sheet.proofs.Scan.{read_end, scan_end, plan_scanned}
use Rattle.sheet.proofs.Enough.{steps_enough}
use Rattle.sheet.proofs.Checked.{sound_short}

-- the offset at place k is one of them
among_at : (l : List ℕ) (k d : ℕ) → k < length l → among (get_or l k d) l ≡ true
among_at [] k d h = absurd (omega arith)
among_at (j ∷ l) zero d h = or_left (eqb j j) (among j l) (eq-eqb j j refl)
among_at (j ∷ l) (suc k) d h = or_right (eqb (get_or l k d) j) (among (get_or l k d) l) (among_at l k d (omega arith))

-- .. and of those that stand behind others
among_behind : (m l : List ℕ) (i : ℕ) → among i l ≡ true → among i (m ++ l) ≡ true
among_behind [] l i h = h
among_behind (j ∷ m) l i h = or_right (eqb i j) (among i (m ++ l)) (among_behind m l i h)

below_at : {n : ℕ} {l : List ℕ} → Each (λ j. j < n) l → (k d : ℕ) → k < length l → get_or l k d < n
below_at none k d h = absurd (omega arith)
below_at (more p hs) zero d h = p
below_at (more p hs) (suc k) d h = below_at hs k d (omega arith)

module _ (w : ℕ) (s : List ℕ) where
  inside_with : (r : Read) (i : ℕ) (F : ℕ → Plan) → SoundRead place_count w (length s) i r → ((j : ℕ) → Each (λ j. j < length s) (F j).offsets)
      → Each (λ j. j < length s) (continue r i F).offsets
  inside_with (Ok (Some d)) i F h k = more {a = i} (omega (arith, h.on, h.within)) (k d.next)
  inside_with (Err r) i F h k = none
  inside_with (Ok None) i F h k = none

  inside : (f i : ℕ) → Each (λ j. j < length s) (scan_from f w s i).offsets
  inside zero i = none
  inside (suc f) i = inside_with (read_at w s i) i (scan_from f w s) (read_sound place_count w s i) (inside f)

  -- ---- what remains from offset j on, of a plan

  pub record Suffix (p : Plan) (j : ℕ) : Type 0 where
    pub before : List ℕ
    pub offsets : p.offsets ≡ before ++ remaining w s j
    pub outcome : (scan_from (length s) w s j).outcome ≡ p.outcome
    pub within : j ≤ length s

  whole_suffix : {i : ℕ} {p : Plan} → PlanFrom place_count w s i p → i ≤ length s → Suffix p i
  whole_suffix {i} {p} q l =
      let e : p ≡ scan_from (length s) w s i = (steps_enough place_count w s i).only p q in
      record { before = []; offsets = ap (λ (p : Plan). p.offsets) e; outcome = ap (λ (p : Plan). p.outcome) (sym e); within = l }

  suffix_of : {i : ℕ} {p : Plan} → PlanFrom place_count w s i p → (j : ℕ) → among j p.offsets ≡ true → Suffix p j
  suffix_of (at_command {i} {d} {p} e q) j h =
      decide (eqb j i)
      (λ t.
      let h = got_sound w s i e in
      subst (Suffix (behind i p)) (sym (eqb-true j i t)) (whole_suffix (at_command e q) (omega (arith, h.on, h.within))))
      λ f.
      let rest : Suffix p j = suffix_of q j (rw f at h) in
      record {
        before = i ∷ rest.before;
        offsets = ap (λ (l : List ℕ). i ∷ l) rest.offsets;
        outcome = rest.outcome;
        within = rest.within;
      }
  suffix_of (at_fault e) j h = absurd (false≢true h)
  suffix_of (at_end e) j h = absurd (false≢true h)

  -- .. of a plan without a fault, from its own offset on
  first_by : {i : ℕ} {p : Plan} → PlanFrom place_count w s i p → i ≤ length s → p.outcome ≡ Sound → among i p.offsets || eqb i (length s) ≡ true
  first_by (at_command {i} {d} {p} e q) l h =
      or_left (among i (i ∷ p.offsets)) (eqb i (length s)) (or_left (eqb i i) (among i p.offsets) (eq-eqb i i refl))
  first_by (at_fault e) l h = let z : ◌≡◌ {A = ℕ} 0 1 = cc in absurd (omega arith)
  first_by (at_end {i} e) l h =
      let end : length s ≤ i = subst (SoundRead place_count w (length s) i) e (read_sound place_count w s i) in
      eq-eqb i (length s) (omega arith)

  module _ (sound : (plan_of w s).outcome ≡ Sound) where
    pub plan_remaining : scan_from (length s) w s 0 ≡ plan_of w s
    plan_remaining = plan_scanned place_count w s (sound_short w s sound)

    plan_from : PlanFrom place_count w s 0 (plan_of w s)
    plan_from = subst (PlanFrom place_count w s 0) plan_remaining (steps_enough place_count w s 0).plan

    end_suffix : (i : ℕ) → i ≡ length s → Suffix (plan_of w s) i
    end_suffix i e =
        let ended = scan_end place_count w s (length s) i (read_end place_count w s i (omega arith)) in
        record {
          before = (plan_of w s).offsets;
          offsets = sym (append-nil (plan_of w s).offsets) ∙ ap (λ (p : Plan). (plan_of w s).offsets ++ p.offsets) (sym ended);
          outcome = ap (λ (p : Plan). p.outcome) ended ∙ sym sound;
          within = omega arith;
        }

    pub suffix : (i : ℕ) → is_start w s i ≡ true → Suffix (plan_of w s) i
    suffix i h =
        either (among i (plan_of w s).offsets) (eqb i (length s)) _ h (suffix_of plan_from i) (λ e. end_suffix i (eqb-true i (length s) e))

    -- ---- what is reached after k commands from a start

    module _ (i : ℕ) (start : is_start w s i ≡ true) where
      abbrev at : ℕ → ℕ
      at k = get_or (remaining w s i) k (length s)

      start_by : (k : ℕ) → Dec (length (remaining w s i) ≤ k) → is_start w s (at k) ≡ true
      start_by k (yes h) =
          let e : at k ≡ length s = get_or-eq_default (remaining w s i) (length s) h in
          or_right (among (at k) (plan_of w s).offsets) (eqb (at k) (length s)) (eq-eqb (at k) (length s) e)
      start_by k (no h) =
          let from = suffix i start in
          let here : among (at k) (plan_of w s).offsets ≡ true =
          subst (λ (l : List ℕ). among (at k) l ≡ true) (sym from.offsets)
          (among_behind from.before (remaining w s i) (at k) (among_at (remaining w s i) k (length s) (omega arith))) in
          or_left (among (at k) (plan_of w s).offsets) (eqb (at k) (length s)) here

      pub reached_start : (k : ℕ) → is_start w s (at k) ≡ true
      reached_start k = start_by k (dec_le (length (remaining w s i)) k)

    -- a run starts at the sheet's first byte
    pub first_start : is_start w s 0 ≡ true
    first_start = first_by plan_from (omega arith) sound

    -- ---- the end is reached by all commands and by no fewer

    abbrev after : ℕ → ℕ
    after k = get_or (plan_of w s).offsets k (length s)

    plan_inside : Each (λ j. j < length s) (plan_of w s).offsets
    plan_inside = subst (λ (p : Plan). Each (λ j. j < length s) p.offsets) plan_remaining (inside (length s) 0)

    end_by : (k : ℕ) → after k ≡ length s → Dec (length (plan_of w s).offsets ≤ k) → length (plan_of w s).offsets ≤ k
    end_by k e (yes h) = h
    end_by k e (no h) = absurd (omega (arith, below_at plan_inside k (length s) (omega arith)))

    pub end_only : (k : ℕ) → after k ≡ length s → length (plan_of w s).offsets ≤ k
    end_only k e = end_by k e (dec_le (length (plan_of w s).offsets) k)
