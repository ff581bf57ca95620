-- A scan, by what stands at its offset, and the plan of a whole sheet by its length; over the number n of places.
use Rattle.std.specs.Prelude.{Ok, Err, Some, None}
use mathlib.Core.Path.{◌≡◌, refl, ap}
use mathlib.Core.List.{List, []}
use Prim.Native.Nat.{ℕ, zero, suc, ◌≤◌, ◌<◌}
use native.Mathlib.Omega.{arith}
use borrow.Author.Tests.{le-leb, lt-ltb, le-ltb}
use lib.ListN.{length}
use Rattle.answer.specs.declared.Refusal.{Refusal}
use Rattle.answer.specs.declared.Refusal.TheVariants.{Sheet}
use Rattle.sheet.specs.declared.Decoded.{Decoded}
use Rattle.sheet.specs.Read.{Read, read_among}
use Rattle.sheet.specs.Sheet.{Sound, refused, behind, continue, scan_among, plan_among}

module _ (n w : ℕ) (s : List ℕ) where
  pub read_end : (i : ℕ) → length s ≤ i → read_among n w s i ≡ Ok None
  unfolding read_among
  read_end i h = rw (le-leb _ _ h)

  -- one command, a fault or the end, where f commands may come still
  pub scan_got : (f g i : ℕ) (d : Decoded) → f ≡ suc g → read_among n w s i ≡ Ok (Some d) → scan_among n f w s i ≡ behind i (scan_among n g w s d.next)
  scan_got f g i d h e = rw (h, e)

  pub scan_fault : (f i : ℕ) (r : Refusal) → 0 < f → read_among n w s i ≡ Err r → scan_among n f w s i ≡ refused r i
  scan_fault zero i r h e = absurd (omega arith)
  scan_fault (suc f) i r h e = ap (λ (r : Read). continue r i (scan_among n f w s)) e

  pub scan_end : (f i : ℕ) → read_among n w s i ≡ Ok None → scan_among n f w s i ≡ record { offsets = []; outcome = Sound }
  scan_end zero i e = refl
  scan_end (suc f) i e = ap (λ (r : Read). continue r i (scan_among n f w s)) e

  -- a sheet of at most 4,096 bytes, and a longer one
  pub plan_scanned : length s ≤ 4096 → scan_among n (length s) w s 0 ≡ plan_among n w s
  unfolding plan_among
  plan_scanned h = rw (le-ltb 4096 (length s) h)

  pub plan_long : 4096 < length s → refused Sheet 0 ≡ plan_among n w s
  unfolding plan_among
  plan_long h = rw (lt-ltb 4096 (length s) h)
