-- Calls that can be taken back come home.
use mathlib.Core.Path.{◌≡◌, ◌∙◌}
use mathlib.Core.List.{List, reverse}
use Rattle.invertible.specs.Invertible.{stepped, Each, Invertible}
use Rattle.invertible.specs.RoundTrip.{Returns, RoundTrip}
use Rattle.invertible.proofs.Invertible.{stepped_map, outputs_map, reversal_undoes, outputs_back}

module _ {C S : Type 0} {P : C → Type 0} {I : S → Type 0} (exchanged : C → C) (after : C → S → S)
    (v : Invertible P I after (λ c. after (exchanged c))) where
  pub returns : {l : List C} → Each P l → (s : S) → I s → Returns exchanged after l s
  returns {l} hl s k = stepped_map after exchanged (reverse l) (stepped after l s) ∙ reversal_undoes v hl s k

  -- where the exchanged call answers what the call answered
  pub round_trip : {A : Type 0} (answer_to : C → S → A) → ((c : C) (s : S) → P c → I s → answer_to (exchanged c) (after c s) ≡ answer_to c s)
      → {l : List C} → Each P l → (s : S) → I s → RoundTrip exchanged after answer_to l s
  round_trip answer_to same {l} hl s k =
      record {
        state = returns hl s k;
        same =
            outputs_map after answer_to exchanged (reverse l) (stepped after l s)
            ∙ outputs_back v answer_to (λ c. answer_to (exchanged c)) same hl s k;
      }
