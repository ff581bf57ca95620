-- What a call knows and leaves once its tests have answered, for either way of writing a record.
use mathlib.Core.Path.{◌≡◌, sym, ap, ◌∙◌}
use mathlib.Core.Bool.{Bool, true, false, not}
use mathlib.Core.List.{List, ◌++◌}
use Prim.Native.Nat.{ℕ, ◌%◌, ◌^◌, ◌≤◌}
use lib.ListN.{length, drop}
use Rattle.answer.specs.Answer.{Answer}
use Rattle.answer.specs.Injective.{Fits}
use Rattle.answer.specs.Refuse.{is_done}
use Rattle.answer.proofs.Tests.{goes_on}
use Rattle.answer.proofs.Outcome.{ends_refused, ends_done}
use Rattle.quasigroup.specs.Tables.{known_width}
use Rattle.shuffle.specs.Shuffle.{record_length, all_records, records_answer, records_out}
use Rattle.shuffle.proofs.RoundTrip.{Accepted, success}

module _ (f : ℕ → List ℕ → List ℕ) (w : ℕ) (s out : List ℕ) {r : Answer} (e : (r ≡ records_answer w (length s) (length out)) × Fits (2 ^ 63) r)
    {done : Bool} (d : done ≡ is_done r) where
  abbrev new : List ℕ
  new = all_records f w s ++ drop (length s) out

  -- the call returns r, which fits, and leaves `last`
  abbrev Ended : List ℕ → Type 0
  Ended last = (r ≡ records_answer w (length s) (length out)) × ((last ≡ records_out f w s out) × Fits (2 ^ 63) r)

  pub refused : not done ≡ true → Ended out
  refused n = let h = ends_refused new out e.0 d n in (h.0, (h.1, e.1))

  module _ (n : not done ≡ false) where
    accepted : Accepted w (length s) (length out)
    accepted = success w (length s) (length out) (ap is_done (sym e.0) ∙ goes_on d n)

    pub asked : (known_width w ≡ true) × (length s % record_length w ≡ 0) × (length s ≤ length out)
    asked = (accepted.known, accepted.whole, accepted.room)

    pub written : {last : List ℕ} → last ≡ new → Ended last
    written h = let g = ends_done new out e.0 d n h in (g.0, (g.1, e.1))
