-- The state of a run after some commands: by the offsets that remain, in two parts, and within its sheet.
use Rattle.std.specs.Prelude.{Ok, Err, Some, None}
use mathlib.Core.Path.{◌≡◌, refl, sym, ap, ◌∙◌}
use mathlib.Core.List.{List, [], ◌∷◌}
use Prim.Native.Nat.{ℕ, zero, suc, ◌+◌, ◌*◌, ◌≤◌, min}
use native.Mathlib.Nat.{zero-add, suc-add, add-zero, add_assoc, zero-min, min-zero, suc-min-suc}
use native.Mathlib.Omega.{arith}
use lib.ListN.{length, get_or, take}
use lib.Seq.{take-nil}
use Rattle.answer.specs.declared.Refusal.{Refusal}
use Rattle.invertible.specs.RoundTrip.{Forward}
use Rattle.sheet.specs.declared.Decoded.{Decoded}
use Rattle.sheet.specs.Read.{Read, place_count, read_at}
use Rattle.sheet.specs.Sheet as Plans
use Rattle.sheet.specs.Sheet.{Outcome, Plan, scan_from}
use Rattle.sheet.specs.Work.{units_in, total_units}
use Rattle.sheet.specs.Run.{step_with, steps}
use Rattle.sheet.specs.Sound.{SoundRead}
use Rattle.sheet.specs.Progress.{RunState, starting_at, advanced, state_after, remaining}
use Rattle.sheet.proofs.Sound.{read_sound}
use Rattle.sheet.proofs.Work.{units_none, units_more}
use Rattle.sheet.proofs.Rest.{rest_got, rest_fault, rest_end}

module _ (w : ℕ) (s : List ℕ) where
  -- ---- one command more

  pub after_read : (k : ℕ) (p : RunState) (r : Read) → read_at w s p.offset ≡ r → state_after (suc k) w s p ≡ state_after k w s (advanced w s r p)
  after_read k p r e = ap (λ (r : Read). state_after k w s (advanced w s r p)) e

  -- where no command stands
  pub stays : (k : ℕ) (p : RunState) (r : Read) → read_at w s p.offset ≡ r → advanced w s r p ≡ p → p ≡ state_after k w s p
  stays zero p r e h = refl
  stays (suc k) p r e h = stays k p r e h ∙ sym (after_read k p r e ∙ ap (state_after k w s) h)

  remaining_got : (i : ℕ) (d : Decoded) → read_at w s i ≡ Ok (Some d) → remaining w s i ≡ i ∷ remaining w s d.next
  remaining_got i d e = ap (λ (p : Plan). p.offsets) (rest_got place_count w s i d e)

  remaining_fault : (i : ℕ) (r : Refusal) → read_at w s i ≡ Err r → remaining w s i ≡ []
  remaining_fault i r e = ap (λ (p : Plan). p.offsets) (rest_fault place_count w s i r e)

  pub remaining_end : (i : ℕ) → read_at w s i ≡ Ok None → remaining w s i ≡ []
  remaining_end i e = rest_end place_count w s i e

  -- ---- as many as there are

  abbrev AsMany : ℕ → RunState → Type 0
  AsMany k p = state_after (min k (length (remaining w s p.offset))) w s p ≡ state_after k w s p

  -- where no command stands
  none_left : (k : ℕ) (p : RunState) → remaining w s p.offset ≡ [] → state_after (suc k) w s p ≡ state_after k w s p → AsMany k p → AsMany (suc k) p
  none_left k p l stays h =
      let now : (n : ℕ) → min n (length (remaining w s p.offset)) ≡ 0 = λ n. ap (λ (m : List ℕ). min n (length m)) l ∙ min-zero n in
      ap (λ (n : ℕ). state_after n w s p) (now (suc k) ∙ sym (now k)) ∙ h ∙ sym stays

  as_many_with : (k : ℕ) (p : RunState) (r : Read) → read_at w s p.offset ≡ r → ((q : RunState) → AsMany k q) → AsMany (suc k) p
  as_many_with k p (Ok (Some d)) e h =
      let n = length (remaining w s d.next) in
      let m : min (suc k) (length (remaining w s p.offset)) ≡ suc (min k n) =
      ap (λ (l : List ℕ). min (suc k) (length l)) (remaining_got p.offset d e) ∙ suc-min-suc k n in
      let q = advanced w s (Ok (Some d)) p in
      ap (λ (n : ℕ). state_after n w s p) m ∙ after_read (min k n) p (Ok (Some d)) e ∙ h q ∙ sym (after_read k p (Ok (Some d)) e)
  as_many_with k p (Err r) e h = none_left k p (remaining_fault p.offset r e) (after_read k p (Err r) e) (h p)
  as_many_with k p (Ok None) e h = none_left k p (remaining_end p.offset e) (after_read k p (Ok None) e) (h p)

  pub as_many : (k : ℕ) (p : RunState) → state_after (min k (length (remaining w s p.offset))) w s p ≡ state_after k w s p
  as_many zero p = ap (λ (n : ℕ). state_after n w s p) (zero-min (length (remaining w s p.offset)))
  as_many (suc k) p = as_many_with k p (read_at w s p.offset) refl (as_many k)

  -- ---- b commands and then c

  pub after_after : (b c : ℕ) (p : RunState) → state_after c w s (state_after b w s p) ≡ state_after (b + c) w s p
  after_after zero c p = ap (λ (n : ℕ). state_after n w s p) (sym (zero-add c))
  after_after (suc b) c p = after_after b c (advanced w s (read_at w s p.offset) p) ∙ ap (λ (n : ℕ). state_after n w s p) (sym (suc-add b c))

  -- units that were counted before
  abbrev pub counted : ℕ → RunState → RunState
  counted t p = record { offset = p.offset; units = t + p.units; vectors = p.vectors }

  counted_read : (t : ℕ) (p : RunState) (r : Read) → advanced w s r (counted t p) ≡ counted t (advanced w s r p)
  counted_read t p (Ok (Some d)) =
      ap {B = RunState} (λ u. record { offset = d.next; units = u; vectors = (advanced w s (Ok (Some d)) p).vectors }) (add_assoc t p.units d.units)
  counted_read t p (Err r) = refl
  counted_read t p (Ok None) = refl

  counted_after : (k t : ℕ) (p : RunState) → state_after k w s (counted t p) ≡ counted t (state_after k w s p)
  counted_after zero t p = refl
  counted_after (suc k) t p =
      ap (state_after k w s) (counted_read t p (read_at w s p.offset)) ∙ counted_after k t (advanced w s (read_at w s p.offset) p)

  -- from a state as from its start, with its units besides
  pub after_from : (k : ℕ) (p : RunState) → state_after k w s p ≡ counted p.units (state_after k w s (starting_at p.offset p.vectors))
  after_from k p =
      ap (λ (u : ℕ). state_after k w s (record { offset = p.offset; units = u; vectors = p.vectors })) (sym (add-zero p.units))
      ∙ counted_after k p.units (starting_at p.offset p.vectors)

  -- ---- what the commands do and count

  pub record Performed (k : ℕ) (p : RunState) : Type 0 where
    pub vectors : (state_after k w s p).vectors ≡ steps Forward w s (take k (remaining w s p.offset)) p.vectors
    pub units : (state_after k w s p).units ≡ p.units + total_units w s (take k (remaining w s p.offset))

  none_done : (k : ℕ) (p : RunState) → remaining w s p.offset ≡ [] → state_after (suc k) w s p ≡ state_after k w s p → Performed k p → Performed (suc k) p
  none_done k p l stays h =
      let o = p.offset in
      let same : take k (remaining w s o) ≡ take (suc k) (remaining w s o) = ap (take k) l ∙ take-nil k ∙ sym (ap (take (suc k)) l) in
      record {
        vectors = ap (λ (q : RunState). q.vectors) stays ∙ h.vectors ∙ ap (λ (l : List ℕ). steps Forward w s l p.vectors) same;
        units = ap (λ (q : RunState). q.units) stays ∙ h.units ∙ ap (λ (l : List ℕ). p.units + total_units w s l) same;
      }

  done_with : (k : ℕ) (p : RunState) (r : Read) → read_at w s p.offset ≡ r → ((q : RunState) → Performed k q) → Performed (suc k) p
  done_with k p (Ok (Some d)) e h =
      let q = advanced w s (Ok (Some d)) p in
      let o = p.offset in
      let rest = take k (remaining w s d.next) in
      let a = after_read k p (Ok (Some d)) e in
      let l : o ∷ rest ≡ take (suc k) (remaining w s o) = sym (ap (take (suc k)) (remaining_got o d e)) in
      let u : total_units w s (o ∷ rest) ≡ d.units + total_units w s rest =
      units_more place_count w s o rest ∙ ap (λ (r : Read). units_in r + total_units w s rest) e in
      record {
        vectors =
            ap (λ (q : RunState). q.vectors) a ∙ (h q).vectors
            ∙ ap (λ (r : Read). steps Forward w s rest (step_with Forward w s r p.vectors)) (sym e)
            ∙ ap (λ (l : List ℕ). steps Forward w s l p.vectors) l;
        units =
            ap (λ (q : RunState). q.units) a ∙ (h q).units ∙ add_assoc p.units d.units (total_units w s rest)
            ∙ ap (λ (t : ℕ). p.units + t) (sym u) ∙ ap (λ (l : List ℕ). p.units + total_units w s l) l;
      }
  done_with k p (Err r) e h = none_done k p (remaining_fault p.offset r e) (after_read k p (Err r) e) (h p)
  done_with k p (Ok None) e h = none_done k p (remaining_end p.offset e) (after_read k p (Ok None) e) (h p)

  pub done : (k : ℕ) (p : RunState) → Performed k p
  done zero p = record { vectors = refl; units = omega (arith, units_none place_count w s) }
  done (suc k) p = done_with k p (read_at w s p.offset) refl (done k)

  -- ---- the offset that is reached in a sound sheet

  abbrev SoundFrom : ℕ → Type 0
  SoundFrom i = (scan_from (length s) w s i).outcome ≡ Plans.Sound

  sound_next : (i : ℕ) (d : Decoded) → read_at w s i ≡ Ok (Some d) → SoundFrom i → SoundFrom d.next
  sound_next i d e h = sym (ap (λ (p : Plan). p.outcome) (rest_got place_count w s i d e)) ∙ h

  no_fault : (i : ℕ) (r : Refusal) → read_at w s i ≡ Err r → SoundFrom i → ⊥
  no_fault i r e h =
      let o : ◌≡◌ {A = Outcome} (Plans.Faulty r i) Plans.Sound = sym (ap (λ (p : Plan). p.outcome) (rest_fault place_count w s i r e)) ∙ h in
      let z : ◌≡◌ {A = ℕ} 0 1 = cc in
      omega arith

  abbrev Reaches : ℕ → RunState → Type 0
  Reaches k p = SoundFrom p.offset → p.offset ≤ length s → (state_after k w s p).offset ≡ get_or (remaining w s p.offset) k (length s)

  here_with : (p : RunState) (r : Read) → read_at w s p.offset ≡ r → SoundRead place_count w (length s) p.offset r → Reaches zero p
  here_with p (Ok (Some d)) e h sound within = ap (λ (l : List ℕ). get_or l zero (length s)) (sym (remaining_got p.offset d e))
  here_with p (Err r) e h sound within = absurd (no_fault p.offset r e sound)
  here_with p (Ok None) e h sound within =
      let here : p.offset ≡ length s = omega arith in
      here ∙ ap (λ (l : List ℕ). get_or l zero (length s)) (sym (remaining_end p.offset e))

  reaches_with : (k : ℕ) (p : RunState) (r : Read) → read_at w s p.offset ≡ r → SoundRead place_count w (length s) p.offset r
      → ((q : RunState) → Reaches k q) → Reaches (suc k) p
  reaches_with k p (Ok (Some d)) e h ih sound within =
      ap (λ (q : RunState). q.offset) (after_read k p (Ok (Some d)) e)
      ∙ ih (advanced w s (Ok (Some d)) p) (sound_next p.offset d e sound) h.within
      ∙ ap (λ (l : List ℕ). get_or l (suc k) (length s)) (sym (remaining_got p.offset d e))
  reaches_with k p (Err r) e h ih sound within = absurd (no_fault p.offset r e sound)
  reaches_with k p (Ok None) e h ih sound within =
      let l = remaining_end p.offset e in
      ap (λ (q : RunState). q.offset) (after_read k p (Ok None) e) ∙ ih p sound within
      ∙ ap (λ (l : List ℕ). get_or l k (length s)) l ∙ sym (ap (λ (l : List ℕ). get_or l (suc k) (length s)) l)

  pub reaches : (k : ℕ) (p : RunState) → SoundFrom p.offset → p.offset ≤ length s → (state_after k w s p).offset ≡ get_or (remaining w s p.offset) k (length s)
  reaches zero p = here_with p (read_at w s p.offset) refl (read_sound place_count w s p.offset)
  reaches (suc k) p = reaches_with k p (read_at w s p.offset) refl (read_sound place_count w s p.offset) (reaches k)

  -- ---- a run stays in its sheet, and takes three bytes or more for each unit

  pub record Within (p : RunState) : Type 0 where
    pub inside : p.offset ≤ length s
    pub taken : 3 * p.units ≤ p.offset

  within_read : 1 ≤ w → (p : RunState) (r : Read) → SoundRead place_count w (length s) p.offset r → Within p → Within (advanced w s r p)
  within_read l p (Ok (Some d)) h i = record { inside = h.within; taken = omega (arith, h.taken l, i.taken) }
  within_read l p (Err r) h i = i
  within_read l p (Ok None) h i = i

  pub within_after : 1 ≤ w → (k : ℕ) (p : RunState) → Within p → Within (state_after k w s p)
  within_after l zero p i = i
  within_after l (suc k) p i =
      within_after l k (advanced w s (read_at w s p.offset) p) (within_read l p (read_at w s p.offset) (read_sound place_count w s p.offset) i)
