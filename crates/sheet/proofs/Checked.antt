-- What the check of a sheet tells of its plan.
use Rattle.std.specs.Prelude.{Ok}
use mathlib.Core.Path.{◌≡◌, refl, sym, ap, ap₂, ◌∙◌}
use mathlib.Core.List.{List, ◌++◌}
use Prim.Native.Nat.{ℕ, ◌+◌, ◌*◌, ◌≤◌, ◌<◌}
use native.Mathlib.Decide.{dec_le}
use native.Mathlib.Omega.{arith}
use lib.ListN.{length, take, drop}
use lib.Seq.{sets, sets-eq, length-sets, take_at}
use Rattle.answer.specs.declared.Refusal.{Refusal}
use Rattle.answer.specs.declared.Refusal.TheVariants.{Sheet}
use Rattle.answer.specs.Answer.{refused_at}
use Rattle.answer.proofs.Results.{ok_one, same_refusal, same_offset}
use Rattle.sheet.specs.declared.Counts.{Counts}
use Rattle.sheet.specs.Work.{counts, total_units, summed, summary}
use Rattle.sheet.specs.Read.{place_count}
use Rattle.sheet.specs.Sheet as Plans
use Rattle.sheet.specs.Sheet.{Outcome, Plan, scan_from, plan_of}
use Rattle.sheet.proofs.Scan.{plan_scanned, plan_long}
use Rattle.sheet.proofs.Rest.{few_commands, few_units}

-- what a summary tells of the plan
pub record Checked (w : ℕ) (s l : List ℕ) (o : Outcome) (n t : ℕ) : Type 0 where
  pub sound : o ≡ Plans.Sound
  pub count : n ≡ length l
  pub total : t ≡ total_units w s l

summed_whole : (w : ℕ) (s l : List ℕ) (o : Outcome) (n t : ℕ) → Ok (counts n t) ≡ summed w s l o → Checked w s l o n t
summed_whole w s l Plans.Sound n t e = record { sound = refl; count = ap (λ (k : Counts). k.commands) (ok_one e); total = ap (λ (k : Counts). k.units) (ok_one e) }
summed_whole w s l (Plans.Faulty r i) n t e = let z : ◌≡◌ {A = ℕ} 0 1 = cc in absurd (omega arith)

summed_faulty : (w : ℕ) (s l : List ℕ) (o : Outcome) (r : Refusal) (i : ℕ) → refused_at r i ≡ summed w s l o → o ≡ Plans.Faulty r i
summed_faulty w s l Plans.Sound r i e = let z : ◌≡◌ {A = ℕ} 0 1 = cc in absurd (omega arith)
summed_faulty w s l (Plans.Faulty q j) r i e = ap₂ {C = Outcome} Plans.Faulty (sym (same_refusal e)) (sym (same_offset e))

pub faulted : (w : ℕ) (s : List ℕ) (r : Refusal) (i : ℕ) → refused_at r i ≡ summary w s (plan_of w s) → (plan_of w s).outcome ≡ Plans.Faulty r i
faulted w s r i e = summed_faulty w s (plan_of w s).offsets (plan_of w s).outcome r i e

-- a sound sheet is not too long
module _ (w : ℕ) (s : List ℕ) (e : (plan_of w s).outcome ≡ Plans.Sound) where
  short_by : Dec (length s ≤ 4096) → length s ≤ 4096
  short_by (yes h) = h
  short_by (no h) =
      let long : 4096 < length s = omega arith in
      let o : ◌≡◌ {A = Outcome} (Plans.Faulty Sheet 0) Plans.Sound = ap (λ (p : Plan). p.outcome) (plan_long place_count w s long) ∙ e in
      let z : ◌≡◌ {A = ℕ} 0 1 = cc in
      absurd (omega arith)

  pub sound_short : length s ≤ 4096
  sound_short = short_by (dec_le (length s) 4096)

  -- .. and has at most 2,048 commands
  pub sound_few : length (plan_of w s).offsets ≤ 2048
  sound_few =
      let h : 2 * length (plan_of w s).offsets ≤ length s = rw (plan_scanned place_count w s sound_short) at (few_commands place_count w s) in
      omega (arith, sound_short)

  -- .. and no more than 1,365 that count
  pub sound_units : 1 ≤ w → total_units w s (plan_of w s).offsets ≤ 1365
  sound_units l =
      let h : 3 * total_units w s (plan_of w s).offsets ≤ length s = rw (plan_scanned place_count w s sound_short) at (few_units place_count w s l) in
      omega (arith, sound_short)

-- a sheet that was found sound
module _ (w : ℕ) (s : List ℕ) {n t : ℕ} (e : Ok (counts n t) ≡ summary w s (plan_of w s)) where
  pub checked : Checked w s (plan_of w s).offsets (plan_of w s).outcome n t
  checked = summed_whole w s (plan_of w s).offsets (plan_of w s).outcome n t e

  pub short : length s ≤ 4096
  short = sound_short w s checked.sound

  pub whole_scanned : scan_from (length s) w s 0 ≡ plan_of w s
  whole_scanned = plan_scanned place_count w s short

  -- the offsets in an array that has a place for each command
  pub whole_offsets : (l : List ℕ) → length l ≡ 2048 → {kept : List ℕ} → kept ≡ sets l 0 (plan_of w s).offsets
      → (n ≤ length kept) × (take n kept ≡ (plan_of w s).offsets)
  whole_offsets l el {kept} k =
      let os = (plan_of w s).offsets in
      let c : n ≡ length os = checked.count in
      let f = sound_few w s checked.sound in
      let fit : 0 + length os ≤ length l = omega arith in
      let q : kept ≡ os ++ drop (0 + length os) l = k ∙ sets-eq os l 0 fit in
      let lk : length kept ≡ length l = ap length k ∙ length-sets l 0 os in
      (omega arith, ap₂ {C = List ℕ} take c q ∙ take_at os (drop (0 + length os) l) (length os) refl)
