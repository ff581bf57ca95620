-- The state of a forward run after some of its commands: its vectors are vectors. Of a sheet without a fault, from the first command on, it is that of a run
-- over the first commands of the plan, and after all of them that of the whole run.
use mathlib.Core.Path.{◌≡◌, sym, ap, subst, ◌∙◌}
use mathlib.Core.List.{List}
use Prim.Native.Nat.{ℕ, ◌≤◌}
use native.Mathlib.Nat.{zero-add}
use native.Mathlib.Omega.{arith}
use lib.ListN.{length, get_or, take}
use lib.Seq.{take_all}
use Rattle.invertible.specs.RoundTrip.{Forward}
use Rattle.invertible.proofs.Invertible.{each, kept}
use Rattle.memory.specs.Bytes.{Bytes}
use Rattle.quasigroup.proofs.Widths.{Bytewise}
use Rattle.sheet.specs.Read.{place_count}
use Rattle.sheet.specs.Sheet.{Sound, Plan, scan_from, plan_of, command_count}
use Rattle.sheet.specs.Work.{total_units}
use Rattle.sheet.specs.Run.{steps, vectors_in, run_vectors}
use Rattle.sheet.specs.Progress.{RunState, starting_at, state_after, remaining}
use Rattle.sheet.proofs.Lent.{State, lent_state}
use Rattle.sheet.proofs.Undoing.{invertible}
use Rattle.sheet.proofs.Progress.{done, reaches}
use Rattle.sheet.proofs.Start.{plan_remaining}

pub state_after_lem : (w : ℕ) → Bytewise w → (s : List ℕ) → Bytes s → (b : List ℕ) → Bytes b → (i k : ℕ)
    → State place_count w (state_after k w s (starting_at i (vectors_in w b))).vectors
state_after_lem w hw s hs b hb i k =
    subst (State place_count w) (sym (done w s k (starting_at i (vectors_in w b))).vectors)
    (kept (invertible w hw s hs place_count Forward) (each (λ _. tt) (take k (remaining w s i))) (vectors_in w b) (lent_state w hw b hb place_count))

module _ (w : ℕ) (s : List ℕ) (v : List (List ℕ)) (sound : (plan_of w s).outcome ≡ Sound) where
  abbrev offsets : List ℕ
  offsets = (plan_of w s).offsets

  scanned : scan_from (length s) w s 0 ≡ plan_of w s
  scanned = plan_remaining w s sound

  abbrev by : ℕ → RunState
  by k = state_after k w s (starting_at 0 v)

  pub offset_by : (k : ℕ) → (by k).offset ≡ get_or offsets k (length s)
  offset_by k =
      reaches w s k (starting_at 0 v) (ap (λ (p : Plan). p.outcome) scanned ∙ sound) (omega arith)
      ∙ ap (λ (p : Plan). get_or p.offsets k (length s)) scanned

  pub vectors_by : (k : ℕ) → (by k).vectors ≡ steps Forward w s (take k offsets) v
  vectors_by k = (done w s k (starting_at 0 v)).vectors ∙ ap (λ (p : Plan). steps Forward w s (take k p.offsets) v) scanned

  module _ (k : ℕ) (all : command_count w s ≤ k) where
    everything : take k (remaining w s 0) ≡ offsets
    everything = ap (λ (p : Plan). take k p.offsets) scanned ∙ take_all k offsets all

    pub end_units : (by k).units ≡ total_units w s offsets
    end_units = (done w s k (starting_at 0 v)).units ∙ zero-add _ ∙ ap (total_units w s) everything

    pub end_vectors : (by k).vectors ≡ run_vectors Forward w s v
    end_vectors = vectors_by k ∙ ap (λ (l : List ℕ). steps Forward w s l v) (take_all k offsets all)
