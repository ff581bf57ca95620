-- The check of a whole sheet, command by command: what is still to come, and what was passed.
use Rattle.std.specs.Prelude.{Ok, Err, Some, None}
use mathlib.Core.Path.{◌≡◌, refl, sym, ap, ◌∙◌}
use mathlib.Core.Bool.{Bool, false, ◌||◌, or_assoc, or-false}
use mathlib.Core.List.{List}
use Prim.Native.Nat.{ℕ, suc, ◌+◌, ◌-◌, ◌*◌, ◌≤◌, ◌<◌}
use native.Mathlib.Numerals.{add-one}
use native.Mathlib.Omega.{arith}
use lib.Dec.{eqb}
use lib.ListN.{length, set, length-set}
use lib.Seq.{sets}
use Rattle.answer.specs.declared.Refusal.{Refusal}
use Rattle.sheet.specs.declared.Decoded.{Decoded}
use Rattle.answer.specs.Answer.{refused_at}
use Rattle.sheet.specs.Work.{counts, total_units, summed, summary}
use Rattle.sheet.specs.Read.{place_count, read_at}
use Rattle.sheet.specs.Sheet as Plans
use Rattle.sheet.specs.Sheet.{Outcome, refused, behind, scan_from}
use Rattle.sheet.specs.Start.{among}
use Rattle.sheet.specs.Sound.{SoundDecoded}
use Rattle.sheet.proofs.Work.{units_none, units_more}
use Rattle.sheet.proofs.Scan.{scan_got, scan_fault, scan_end}

module _ (w : ℕ) (s : List ℕ) (x : ℕ) where
  -- n commands of t units are passed and i is reached, and m says whether the offset x was met: with what comes still, they are the whole sheet; l₀ is the
  -- lent array at the start, l as it is now
  pub record Scanning (l₀ l : List ℕ) (n t i : ℕ) (m : Bool) : Type 0 where
    pub low : 2 * n ≤ i
    pub few : t ≤ n
    pub within : i ≤ length s
    pub room : length l ≡ length l₀
    pub outcome : (scan_from (length s - n) w s i).outcome ≡ (scan_from (length s) w s 0).outcome
    pub count : n + length (scan_from (length s - n) w s i).offsets ≡ length (scan_from (length s) w s 0).offsets
    pub units : t + total_units w s (scan_from (length s - n) w s i).offsets ≡ total_units w s (scan_from (length s) w s 0).offsets
    pub sought : m || among x (scan_from (length s - n) w s i).offsets ≡ among x (scan_from (length s) w s 0).offsets
    pub stored : sets l n (scan_from (length s - n) w s i).offsets ≡ sets l₀ 0 (scan_from (length s) w s 0).offsets

  pub started : (l : List ℕ) → Scanning l l 0 0 0 false
  started l =
      let e : length s - 0 ≡ length s = omega arith in
      record {
        low = omega arith;
        few = omega arith;
        within = omega arith;
        room = refl;
        outcome = rw e;
        count = rw e (omega arith);
        units = rw e (omega arith);
        sought = rw e;
        stored = rw e;
      }

  module _ {l₀ l : List ℕ} {n t i : ℕ} {m : Bool} (now : Scanning l₀ l n t i m) where
    pub more : (d : Decoded) {l₁ : List ℕ} {m₁ : Bool} → read_at w s i ≡ Ok (Some d) → SoundDecoded w (length s) i d → l₁ ≡ set l n i → m₁ ≡ m || eqb x i
        → Scanning l₀ l₁ (n + 1) (t + d.units) d.next m₁
    more d {l₁} {m₁} e h el em =
        let f = length s - n in
        let low = now.low in
        let g = length s - (n + 1) in
        let fuel : f ≡ suc g = omega arith in
        let step : scan_from f w s i ≡ behind i (scan_from g w s d.next) = scan_got place_count w s f g i d fuel e in
        let on = h.on in
        let counted = rw step at now.count in
        let rest = (scan_from g w s d.next).offsets in
        let summed : t + (d.units + total_units w s rest) ≡ total_units w s (scan_from (length s) w s 0).offsets =
        rw (step, units_more place_count w s i rest, e) at now.units in
        let one = h.few in
        let few = now.few in
        record {
          low = omega arith;
          few = omega arith;
          within = h.within;
          room = ap length el ∙ length-set l n i ∙ now.room;
          outcome = rw step at now.outcome;
          count = omega arith;
          units = omega arith;
          sought = ap (λ (m : Bool). m || among x rest) em ∙ or_assoc m (eqb x i) (among x rest) ∙ (rw step at now.sought);
          stored = ap (λ (j : ℕ). sets l₁ j (scan_from g w s d.next).offsets) (add-one n) ∙ rw el (rw step at now.stored);
        }

    pub faulty : (r : Refusal) → read_at w s i ≡ Err r → i < length s
        → (refused_at r i ≡ summary w s (scan_from (length s) w s 0))
        × ((m ≡ among x (scan_from (length s) w s 0).offsets) × (l ≡ sets l₀ 0 (scan_from (length s) w s 0).offsets))
    faulty r e inside =
        let low = now.low in
        let pos : 0 < length s - n = omega arith in
        let step : scan_from (length s - n) w s i ≡ refused r i = scan_fault place_count w s (length s - n) i r pos e in (
          ap (summed w s (scan_from (length s) w s 0).offsets) (rw step at now.outcome),
          (sym (or-false m) ∙ (rw step at now.sought), rw step at now.stored),
        )

    pub ended : read_at w s i ≡ Ok None
        → (Ok (counts n t) ≡ summary w s (scan_from (length s) w s 0))
        × ((m ≡ among x (scan_from (length s) w s 0).offsets) × (l ≡ sets l₀ 0 (scan_from (length s) w s 0).offsets))
    ended e =
        let step = scan_end place_count w s (length s - n) i e in
        let count : n + 0 ≡ length (scan_from (length s) w s 0).offsets = rw step at now.count in
        let units : t + 0 ≡ total_units w s (scan_from (length s) w s 0).offsets = rw (step, units_none place_count w s) at now.units in
        let en : n ≡ length (scan_from (length s) w s 0).offsets = omega arith in
        let et : t ≡ total_units w s (scan_from (length s) w s 0).offsets = omega arith in
        let o : ◌≡◌ {A = Outcome} Plans.Sound (scan_from (length s) w s 0).outcome = rw step at now.outcome in (
          ap (λ (a : ℕ). Ok (counts a t)) en ∙ ap (λ (b : ℕ). Ok (counts (length (scan_from (length s) w s 0).offsets) b)) et ∙ ap (summed w s (scan_from (length s) w s 0).offsets) o,
          (sym (or-false m) ∙ (rw step at now.sought), rw step at now.stored),
        )
