-- A scan from any offset: how many commands may come is no matter once they are enough; over the number n of places.
use Rattle.std.specs.Prelude.{Ok, Err, Some, None}
use mathlib.Core.Path.{◌≡◌, refl, ap, sym, ◌∙◌}
use mathlib.Core.List.{List, [], ◌∷◌}
use Prim.Native.Nat.{ℕ, zero, suc, ◌+◌, ◌-◌, ◌*◌, ◌≤◌}
use native.Mathlib.Omega.{arith}
use lib.ListN.{length}
use Rattle.answer.specs.declared.Refusal.{Refusal}
use Rattle.sheet.specs.declared.Decoded.{Decoded}
use Rattle.sheet.specs.Read.{Read, read_among}
use Rattle.sheet.specs.Sheet.{Plan, refused, behind, continue, scan_among}
use Rattle.sheet.specs.Work.{units_in, total_units_among}
use Rattle.sheet.specs.Sound.{SoundRead}
use Rattle.sheet.proofs.Sound.{read_sound}
use Rattle.sheet.proofs.Work.{units_none, units_more}
use Rattle.sheet.proofs.Scan.{read_end, scan_got, scan_fault, scan_end}

module _ (n w : ℕ) (s : List ℕ) where
  continued : (r : Read) (i : ℕ) (F G : ℕ → Plan) → SoundRead n w (length s) i r → ((j : ℕ) → i + 2 ≤ j → F j ≡ G j) → continue r i F ≡ continue r i G
  continued (Ok (Some d)) i F G h k = ap (behind i) (k d.next h.on)
  continued (Err r) i F G h k = refl
  continued (Ok None) i F G h k = refl

  pub enough : (f g i : ℕ) → length s - i ≤ f → length s - i ≤ g → scan_among n f w s i ≡ scan_among n g w s i
  enough zero g i h k = sym (scan_end n w s g i (read_end n w s i (omega arith)))
  enough (suc f) zero i h k = scan_end n w s (suc f) i (read_end n w s i (omega arith))
  enough (suc f) (suc g) i h k =
      continued (read_among n w s i) i (scan_among n f w s) (scan_among n g w s) (read_sound n w s i) (λ j on. enough f g j (omega arith) (omega arith))

  -- the rest of a sheet from offset i on
  pub rest_got : (i : ℕ) (d : Decoded) → read_among n w s i ≡ Ok (Some d) → scan_among n (length s) w s i ≡ behind i (scan_among n (length s) w s d.next)
  rest_got i d e = enough (length s) (suc (length s)) i (omega arith) (omega arith) ∙ scan_got n w s (suc (length s)) (length s) i d refl e

  pub rest_fault : (i : ℕ) (r : Refusal) → read_among n w s i ≡ Err r → scan_among n (length s) w s i ≡ refused r i
  rest_fault i r e = enough (length s) (suc (length s)) i (omega arith) (omega arith) ∙ scan_fault n w s (suc (length s)) i r (omega arith) e

  pub rest_end : (i : ℕ) → read_among n w s i ≡ Ok None → (scan_among n (length s) w s i).offsets ≡ []
  rest_end i e = ap (λ (p : Plan). p.offsets) (scan_end n w s (length s) i e)

  -- a command takes two bytes at least
  few_with : (r : Read) (i : ℕ) (F : ℕ → Plan) → SoundRead n w (length s) i r → ((j : ℕ) → 2 * length (F j).offsets ≤ length s - j)
      → 2 * length (continue r i F).offsets ≤ length s - i
  few_with (Ok (Some d)) i F h k = omega (arith, k d.next, h.on, h.within)
  few_with (Err r) i F h k = omega arith
  few_with (Ok None) i F h k = omega arith

  few : (f i : ℕ) → 2 * length (scan_among n f w s i).offsets ≤ length s - i
  few zero i = omega arith
  few (suc f) i = few_with (read_among n w s i) i (scan_among n f w s) (read_sound n w s i) (few f)

  pub few_commands : 2 * length (scan_among n (length s) w s 0).offsets ≤ length s
  few_commands = omega (arith, few (length s) 0)

  -- one that counts takes three, where a K takes a byte or more
  units_with : (r : Read) (i : ℕ) (F : ℕ → Plan) → read_among n w s i ≡ r → SoundRead n w (length s) i r → 1 ≤ w
      → ((j : ℕ) → 3 * total_units_among n w s (F j).offsets ≤ length s - j) → 3 * total_units_among n w s (continue r i F).offsets ≤ length s - i
  units_with (Ok (Some d)) i F e h l k =
      let u : total_units_among n w s (i ∷ (F d.next).offsets) ≡ d.units + total_units_among n w s (F d.next).offsets =
      units_more n w s i (F d.next).offsets ∙ ap (λ (r : Read). units_in r + total_units_among n w s (F d.next).offsets) e in
      omega (arith, k d.next, h.taken l, h.within)
  units_with (Err r) i F e h l k = omega (arith, units_none n w s)
  units_with (Ok None) i F e h l k = omega (arith, units_none n w s)

  units_from : 1 ≤ w → (f i : ℕ) → 3 * total_units_among n w s (scan_among n f w s i).offsets ≤ length s - i
  units_from l zero i = omega (arith, units_none n w s)
  units_from l (suc f) i = units_with (read_among n w s i) i (scan_among n f w s) refl (read_sound n w s i) l (units_from l f)

  pub few_units : 1 ≤ w → 3 * total_units_among n w s (scan_among n (length s) w s 0).offsets ≤ length s
  few_units l = omega (arith, units_from l (length s) 0)
