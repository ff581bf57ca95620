-- The loop of a slice: what is still to be done leads to the same state.
use Rattle.std.specs.Prelude.{Ok, Err, Some, None}
use mathlib.Core.Path.{◌≡◌, refl, ap, sym, ◌∙◌}
use mathlib.Core.List.{List}
use Prim.Native.Nat.{ℕ, suc, ◌+◌}
use Rattle.answer.specs.declared.Refusal.{Refusal}
use Rattle.sheet.specs.declared.Decoded.{Decoded}
use Rattle.sheet.specs.Read.{read_at}
use Rattle.sheet.specs.Effect.{effect}
use Rattle.sheet.specs.Progress.{RunState, run_state, state_after}
use Rattle.sheet.proofs.Progress.{after_read, stays}

-- n commands are left to do from the state p on
module _ (w : ℕ) (s : List ℕ) (p : RunState) (n : ℕ) {end : RunState} (now : state_after n w s p ≡ end) where
  pub one_more : (m : ℕ) → n ≡ suc m → (d : Decoded) {u : List (List ℕ)} → read_at w s p.offset ≡ Ok (Some d) → u ≡ effect w s d.command p.vectors
      → state_after m w s (run_state d.next (p.units + d.units) u) ≡ end
  one_more m k d e h =
      ap (λ (u : List (List ℕ)). state_after m w s (run_state d.next (p.units + d.units) u)) h
      ∙ sym (after_read w s m p (Ok (Some d)) e)
      ∙ ap (λ (n : ℕ). state_after n w s p) (sym k)
      ∙ now

  pub at_fault : (r : Refusal) → read_at w s p.offset ≡ Err r → p ≡ end
  at_fault r e = stays w s n p (Err r) e refl ∙ now

  pub at_end : read_at w s p.offset ≡ Ok None → p ≡ end
  at_end e = stays w s n p (Ok None) e refl ∙ now

  pub none_left : n ≡ 0 → p ≡ end
  none_left e = ap (λ (n : ℕ). state_after n w s p) (sym e) ∙ now
