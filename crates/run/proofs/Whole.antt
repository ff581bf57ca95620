-- A whole run of a sheet that was found sound.
use Rattle.std.specs.Prelude.{Ok}
use mathlib.Core.Path.{◌≡◌, ap, ◌∙◌}
use mathlib.Core.Bool.{true}
use mathlib.Core.List.{List, reverse}
use Prim.Native.Nat.{ℕ, ◌*◌}
use lib.Dec.{eqb}
use lib.ListN.{length, take}
use Rattle.memory.specs.Bytes.{Bytes}
use Rattle.quasigroup.specs.Tables.{known_width}
use Rattle.sheet.specs.Work.{counts, summary}
use Rattle.sheet.specs.Read.{place_count}
use Rattle.sheet.specs.Sheet.{Plan, scan_from, plan_of}
use Rattle.invertible.specs.RoundTrip.{Forward, Backward}
use Rattle.sheet.specs.Run.{steps, vectors_in, run_answer, run_bytes}
use Rattle.sheet.proofs.Checked.{whole_scanned}
use Rattle.sheet.proofs.Ran.{ran}

module _ (w : ℕ) (s b : List ℕ) {n t : ℕ} (e : Ok (counts n t) ≡ summary w s (plan_of w s)) where
  -- of the bytes b, which fit, it left `last`
  module _ (k : known_width w ≡ true) (h : eqb (length b) (place_count * w) ≡ true) (last : List ℕ) (hl : Bytes last) (el : length last ≡ length b) where
    pub forward_whole : vectors_in w last ≡ steps Forward w s (scan_from (length s) w s 0).offsets (vectors_in w b)
        → (Ok t ≡ run_answer w s b) × (last ≡ run_bytes Forward w s b)
    forward_whole v = ran Forward w s b k h last hl el e (v ∙ ap (λ (p : Plan). steps Forward w s p.offsets (vectors_in w b)) (whole_scanned w s e))

    -- with the first n of the offsets that were kept
    pub backward_whole : (kept : List ℕ) → take n kept ≡ (plan_of w s).offsets → vectors_in w last ≡ steps Backward w s (reverse (take n kept)) (vectors_in w b)
        → (Ok t ≡ run_answer w s b) × (last ≡ run_bytes Backward w s b)
    backward_whole kept o v = ran Backward w s b k h last hl el e (v ∙ ap (λ (l : List ℕ). steps Backward w s (reverse l) (vectors_in w b)) o)
