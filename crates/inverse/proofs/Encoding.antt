-- What is read at an offset, in bytes, is what stands there.
use Rattle.std.specs.Prelude.{Ok, Err, Some, None}
use mathlib.Core.Path.{◌≡◌, refl, sym, ap, ap₂, subst, ◌∙◌}
use mathlib.Core.Bool.{false, ◌||◌}
use mathlib.Core.List.{List, [], ◌∷◌, ◌++◌}
use Prim.Native.Nat.{ℕ, suc, ◌+◌, ◌-◌, ◌≤◌, ◌<◌}
use native.Mathlib.Omega.{arith}
use borrow.Author.Tests.{eqb-true, eqb-false, ltb-true, ltb-false, le-ltb}
use lib.Dec.{eqb, leb, ltb}
use lib.ListN.{length, get_or, take, drop, take-append-drop, length-drop, drop_of_length-le}
use lib.Seq.{length-take-le, drop-cons, drop-drop}
use Rattle.answer.proofs.Tests.{split, neither}
use Rattle.invertible.specs.Invertible.{Each, none, more}
use Rattle.sheet.specs.declared.Places.{Places}
use Rattle.sheet.specs.declared.Command.{Command}
use Rattle.sheet.specs.Read.{Read, place_count, size_of, two_place_command, one_place_command, two_places, one_place, read_among, read_at}
use Rattle.sheet.specs.Sheet.{Sound, Plan, scan_from, plan_of}
use Rattle.sheet.specs.Enough.{PlanFrom, at_command, at_fault, at_end}
use Rattle.sheet.specs.Sound.{SoundCommand, SoundRead}
use Rattle.sheet.proofs.Sound.{size_two, size_three, read_sound, got_sound}
use Rattle.sheet.proofs.Scan.{plan_scanned}
use Rattle.sheet.proofs.Checked.{sound_short}
use Rattle.sheet.proofs.Enough.{steps_enough}
use Rattle.inverse.specs.Encoding.{immediate, encoded, all_encoded, command_in, commands_at, ReadingDecodes, SheetsEncoded}
use Rattle.inverse.proofs.Lists.{flat_none, flat_more}

-- a K that lies in the sheet has all its bytes
pub immediate_length : (w : ℕ) (s : List ℕ) (k : ℕ) → k + w ≤ length s → length (immediate w s k) ≡ w
immediate_length w s k h = let l = length-drop k s in length-take-le w (drop k s) (omega arith)

module _ (w : ℕ) (s : List ℕ) where
  -- ---- a command's bytes by its opcode b

  above : (b k : ℕ) → k ≤ b → eqb b k ≡ false → k + 1 ≤ b
  above b k l h = let q : b ≡ k → ⊥ = eqb-false b k h in omega arith

  two_bytes : (b : ℕ) (p : Places) → 1 ≤ b → b < 6 → encoded w s (two_place_command b p) ≡ b ∷ p.d ∷ p.s ∷ []
  two_bytes b p z l =
      let P : Command → Type 0 = λ c. encoded w s c ≡ b ∷ p.d ∷ p.s ∷ [] in
      let by : (k : ℕ) → k ≡ b → k ∷ p.d ∷ p.s ∷ [] ≡ b ∷ p.d ∷ p.s ∷ [] = λ k e. ap (λ (x : ℕ). x ∷ p.d ∷ p.s ∷ []) e in
      split P (eqb b 1) _ _ (λ e. by 1 (sym (eqb-true b 1 e))) λ e₁.
      split P (eqb b 2) _ _ (λ e. by 2 (sym (eqb-true b 2 e))) λ e₂.
      split P (eqb b 3) _ _ (λ e. by 3 (sym (eqb-true b 3 e))) λ e₃.
      split P (eqb b 4) _ _ (λ e. by 4 (sym (eqb-true b 4 e))) λ e₄.
      by 5 (omega (arith, above b 4 (above b 3 (above b 2 (above b 1 z e₁) e₂) e₃) e₄))

  one_bytes : (b d k : ℕ) → 6 ≤ b → b ≤ 8 → encoded w s (one_place_command b d k) ≡ b ∷ d ∷ take (size_of w b - 2) (drop k s)
  one_bytes b d k z l =
      let P : Command → Type 0 = λ c. encoded w s c ≡ b ∷ d ∷ take (size_of w b - 2) (drop k s) in
      split P (eqb b 6) _ _ (λ e. rw (eqb-true b 6 e)) λ e.
      let size : size_of w b ≡ w + 2 = rw (le-ltb b 6 z, e) in
      let n : w ≡ size_of w b - 2 = omega arith in
      let by : (j : ℕ) → j ≡ b → j ∷ d ∷ immediate w s k ≡ b ∷ d ∷ take (size_of w b - 2) (drop k s) =
      λ j h. ap₂ {C = List ℕ} (λ (x m : ℕ). x ∷ d ∷ take m (drop k s)) h n in
      split P (eqb b 7) _ _ (λ h. by 7 (sym (eqb-true b 7 h))) λ h.
      by 8 (omega (arith, above b 7 (above b 6 z e) h))

  -- ---- what stands at the offset i

  module _ (i : ℕ) where
    abbrev Stands : Read → Type 0
    Stands (Ok (Some d)) = encoded w s d.command ++ drop d.next s ≡ drop i s
    Stands (Err r) = Unit {0}
    Stands (Ok None) = Unit {0}

    -- the first bytes from there on
    from_two : i + 2 ≤ length s → get_or s i 0 ∷ get_or s (i + 1) 0 ∷ drop (i + 2) s ≡ drop i s
    from_two h =
        let one : suc i ≡ i + 1 = omega arith in
        let two : suc (i + 1) ≡ i + 2 = omega arith in
        let first : drop i s ≡ get_or s i 0 ∷ drop (i + 1) s = drop-cons s i 0 (omega arith) ∙ ap (λ (j : ℕ). get_or s i 0 ∷ drop j s) one in
        let second : drop (i + 1) s ≡ get_or s (i + 1) 0 ∷ drop (i + 2) s =
        drop-cons s (i + 1) 0 (omega arith) ∙ ap (λ (j : ℕ). get_or s (i + 1) 0 ∷ drop j s) two in
        sym (first ∙ ap (λ (l : List ℕ). get_or s i 0 ∷ l) second)

    third : i + 3 ≤ length s → get_or s (i + 2) 0 ∷ drop (i + 3) s ≡ drop (i + 2) s
    third h = let e : suc (i + 2) ≡ i + 3 = omega arith in sym (drop-cons s (i + 2) 0 (omega arith) ∙ ap (λ (j : ℕ). get_or s (i + 2) 0 ∷ drop j s) e)

    module _ (b : ℕ) (is : b ≡ get_or s i 0) (fits : i + size_of w b ≤ length s) where
      two_stand : 1 ≤ b → b < 6 → Stands (two_places b (record { d = get_or s (i + 1) 0; s = get_or s (i + 2) 0 }) (i + size_of w b))
      two_stand z l =
          let p : Places = record { d = get_or s (i + 1) 0; s = get_or s (i + 2) 0 } in
          let size : size_of w b ≡ 3 = size_three w b l in
          split Stands (leb place_count p.d || leb place_count p.s) _ _ (λ _. tt) λ _.
          split Stands (eqb p.d p.s) _ _ (λ _. tt) λ _.
          ap₂ {C = List ℕ} (λ (e : List ℕ) (j : ℕ). e ++ drop (i + j) s) (two_bytes b p z l) size
          ∙ ap₂ {C = List ℕ} (λ (x : ℕ) (r : List ℕ). x ∷ p.d ∷ r) is (third (omega arith))
          ∙ from_two (omega arith)

      one_stands : 6 ≤ b → b ≤ 8 → Stands (one_place b (get_or s (i + 1) 0) (i + 2) (i + size_of w b))
      one_stands z l =
          let d = get_or s (i + 1) 0 in
          let two = size_two w b in
          let e : i + 2 + (size_of w b - 2) ≡ i + size_of w b = omega arith in
          let rest : take (size_of w b - 2) (drop (i + 2) s) ++ drop (i + size_of w b) s ≡ drop (i + 2) s =
          ap (λ (r : List ℕ). take (size_of w b - 2) (drop (i + 2) s) ++ r) (ap (λ (j : ℕ). drop j s) (sym e) ∙ sym (drop-drop (size_of w b - 2) (i + 2) s))
          ∙ take-append-drop (size_of w b - 2) (drop (i + 2) s) in
          split Stands (leb place_count d) _ _ (λ _. tt) λ _.
          ap (λ (r : List ℕ). r ++ drop (i + size_of w b) s) (one_bytes b d (i + 2) z l)
          ∙ ap₂ {C = List ℕ} (λ (x : ℕ) (r : List ℕ). x ∷ d ∷ r) is rest
          ∙ from_two (omega arith)

    stands : Stands (read_at w s i)
    unfolding read_among
    stands =
        let b = get_or s i 0 in
        split Stands (leb (length s) i) _ _ (λ _. tt) λ _.
        split Stands (eqb b 0 || ltb 8 b) _ _ (λ _. tt) λ z.
        split Stands (ltb (length s) (i + size_of w b)) _ _ (λ _. tt) λ f.
        let fits = ltb-false (length s) (i + size_of w b) f in
        let one : 1 ≤ b = above b 0 (omega arith) (neither (eqb b 0) (ltb 8 b) z).0 in
        let most : b ≤ 8 = ltb-false 8 b (neither (eqb b 0) (ltb 8 b) z).1 in
        split Stands (ltb b 6) _ _ (λ l. two_stand b refl fits one (ltb-true b 6 l)) (λ l. one_stands b refl fits (ltb-false b 6 l) most)

pub reading_decodes : ReadingDecodes
reading_decodes w s i d e = subst (Stands w s i) e (stands w s i)

-- ---- a sheet without a fault

module _ (w : ℕ) (s : List ℕ) where
  -- of the commands at the offsets of a plan from offset i on
  pub record Faithful (i : ℕ) (l : List ℕ) : Type 0 where
    pub bytes : all_encoded w s (commands_at w s l) ≡ drop i s
    pub sound : Each (SoundCommand w (length s)) (commands_at w s l)

  faithful_from : {i : ℕ} {p : Plan} → PlanFrom place_count w s i p → p.outcome ≡ Sound → Faithful i p.offsets
  faithful_from (at_command {i} {d} {p} e k) h =
      let rest = faithful_from k h in
      let l = p.offsets in
      let f : commands_at w s (i ∷ l) ≡ d.command ∷ commands_at w s l =
      flat_more (λ i. command_in (read_at w s i)) i l ∙ ap (λ (r : Read). command_in r ++ commands_at w s l) e in
      record {
        bytes =
            ap (all_encoded w s) f
            ∙ flat_more (encoded w s) d.command (commands_at w s l)
            ∙ ap (λ (r : List ℕ). encoded w s d.command ++ r) rest.bytes
            ∙ reading_decodes w s i d e;
        sound = subst (Each (SoundCommand w (length s))) (sym f) (more (got_sound w s i e).sound rest.sound);
      }
  faithful_from (at_fault e) h = let z : ◌≡◌ {A = ℕ} 0 1 = cc in absurd (omega arith)
  faithful_from (at_end {i} e) h =
      let f : commands_at w s [] ≡ [] = flat_none (λ i. command_in (read_at w s i)) in
      let long : length s ≤ i = subst (SoundRead place_count w (length s) i) e (read_sound place_count w s i) in
      record {
        bytes = ap (all_encoded w s) f ∙ flat_none (encoded w s) ∙ sym (drop_of_length-le s long);
        sound = subst (Each (SoundCommand w (length s))) (sym f) none;
      }

  -- of the rest of the sheet, and of the whole
  pub faithful_rest : (i : ℕ) → (scan_from (length s) w s i).outcome ≡ Sound → Faithful i (scan_from (length s) w s i).offsets
  faithful_rest i h = faithful_from (steps_enough place_count w s i).plan h

  pub faithful : (plan_of w s).outcome ≡ Sound → Faithful 0 (plan_of w s).offsets
  faithful h =
      let e = plan_scanned place_count w s (sound_short w s h) in
      rw (← e) (faithful_rest 0 (ap (λ (p : Plan). p.outcome) e ∙ h))

pub sheets_encoded : SheetsEncoded
sheets_encoded w s h = (faithful w s h).bytes
