-- The loops of a run: what is still to be done leads to the same vectors.
use Rattle.std.specs.Prelude.{Ok, Err, Some, None}
use mathlib.Core.Path.{◌≡◌, ap, sym, ◌∙◌}
use mathlib.Core.List.{List, [], ◌∷◌, reverse, reverse-append}
use Prim.Native.Nat.{ℕ, suc, ◌≤◌, ◌<◌}
use native.Mathlib.Omega.{arith}
use lib.ListN.{length, get_or, take}
use lib.Seq.{take-suc}
use Rattle.answer.specs.declared.Refusal.{Refusal}
use Rattle.sheet.specs.declared.Command.{Command}
use Rattle.sheet.specs.declared.Decoded.{Decoded}
use Rattle.sheet.specs.Read.{Read, place_count, read_at}
use Rattle.sheet.specs.Sheet.{scan_from}
use Rattle.sheet.specs.Effect.{effect, undone}
use Rattle.invertible.specs.RoundTrip.{Forward, Backward}
use Rattle.sheet.specs.Run.{step_with, step, steps}
use Rattle.sheet.proofs.Rest.{rest_got, rest_fault, rest_end}

module _ (w : ℕ) (s : List ℕ) (i : ℕ) (v : List (List ℕ)) where
  -- the command at offset i is undone
  pub undone_got : (d : Decoded) {c : Command} {u : List (List ℕ)} → read_at w s i ≡ Ok (Some d) → c ≡ undone d.command → u ≡ effect w s c v
      → u ≡ step Backward w s i v
  undone_got d e h k = k ∙ ap (λ (c : Command). effect w s c v) h ∙ ap (λ (r : Read). step_with Backward w s r v) (sym e)

  pub undone_fault : (r : Refusal) → read_at w s i ≡ Err r → v ≡ step Backward w s i v
  undone_fault r e = ap (λ (r : Read). step_with Backward w s r v) (sym e)

  pub undone_end : read_at w s i ≡ Ok None → v ≡ step Backward w s i v
  undone_end e = ap (λ (r : Read). step_with Backward w s r v) (sym e)

module _ (w : ℕ) (s : List ℕ) (i : ℕ) (v : List (List ℕ)) {end : List (List ℕ)} where
  -- from offset i on
  module _ (now : steps Forward w s (scan_from (length s) w s i).offsets v ≡ end) where
    pub forward_more : (d : Decoded) {u : List (List ℕ)} → read_at w s i ≡ Ok (Some d) → u ≡ effect w s d.command v
        → steps Forward w s (scan_from (length s) w s d.next).offsets u ≡ end
    forward_more d e h =
        let rest = (scan_from (length s) w s d.next).offsets in
        ap (steps Forward w s rest) (h ∙ ap (λ (r : Read). step_with Forward w s r v) (sym e)) ∙ (rw (rest_got place_count w s i d e) at now)

    pub forward_fault : (r : Refusal) → read_at w s i ≡ Err r → v ≡ end
    forward_fault r e = rw (rest_fault place_count w s i r e) at now

    pub forward_end : read_at w s i ≡ Ok None → v ≡ end
    forward_end e = rw (rest_end place_count w s i e) at now

  -- with i offsets left, of which j is the last
  pub backward_more : (l : List ℕ) (j : ℕ) → i ≡ suc j → i ≤ length l → steps Backward w s (reverse (take i l)) v ≡ end → {u : List (List ℕ)} {x : ℕ}
      → x ≡ get_or l j 0 → u ≡ step Backward w s x v → steps Backward w s (reverse (take j l)) u ≡ end
  backward_more l j b k now f e =
      let r : j < length l = omega arith in
      let t : reverse (take i l) ≡ get_or l j 0 ∷ reverse (take j l) =
      ap (λ (m : ℕ). reverse (take m l)) b ∙ ap (λ (m : List ℕ). reverse m) (take-suc l j 0 r) ∙ reverse-append (take j l) (get_or l j 0 ∷ []) in
      ap (steps Backward w s (reverse (take j l))) (e ∙ ap (λ (x : ℕ). step Backward w s x v) f) ∙ (rw t at now)
