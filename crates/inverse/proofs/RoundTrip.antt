-- The way home with inverse sheets, from demand 3's theorem.
use mathlib.Core.Path.{◌≡◌, sym, ◌∙◌}
use mathlib.Core.List.{List, [], ◌∷◌, reverse, head-eq_of_cons-eq}
use Prim.Native.Nat.{ℕ}
use Rattle.invertible.specs.Invertible.{stepped, none, more}
use Rattle.invertible.specs.RoundTrip.{Forward}
use Rattle.invertible.proofs.Invertible.{each_map, each_reverse, stepped_map, stepped_same, outputs_map, outputs_same}
use Rattle.sheet.specs.RoundTrip.{Run, answer_to, after, exchanged}
use Rattle.sheet.proofs.RoundTrip.{round_trips}
use Rattle.inverse.specs.Encoding.{Accepted}
use Rattle.inverse.specs.RoundTrip.{inverted, InverseRoundTrips, ForwardRoundTrips}
use Rattle.inverse.proofs.Inverts.{sheets_invert}

-- a run of the inverse sheet is a run of the sheet in the other direction
exchanged_alike : (r : Run) → Accepted r.width r.sheet → (b : List ℕ)
    → (after (inverted r) b ≡ after (exchanged r) b) × (answer_to (inverted r) b ≡ answer_to (exchanged r) b)
exchanged_alike r h b = let i = sheets_invert r.width r.sheet h in (i.run r.direction b, i.answer b)

pub inverse_round_trips : InverseRoundTrips
inverse_round_trips l hl ha b hb =
    let trip = round_trips l hl b hb in
    let out = stepped after l b in
    let back = each_reverse ha in
    record {
      state =
          stepped_map after inverted (reverse l) out
          ∙ stepped_same (each_map (λ r h s. (exchanged_alike r h s).0) back) out
          ∙ sym (stepped_map after exchanged (reverse l) out)
          ∙ trip.state;
      same =
          outputs_map after answer_to inverted (reverse l) out
          ∙ outputs_same (each_map (λ r h s. exchanged_alike r h s) back) out
          ∙ sym (outputs_map after answer_to exchanged (reverse l) out)
          ∙ trip.same;
    }

-- of the list of one run
pub forward_round_trips : ForwardRoundTrips
forward_round_trips w s hs h b hb =
    let r : Run = record { direction = Forward; width = w; sheet = s } in
    let trip = inverse_round_trips (r ∷ []) (more hs none) (more h none) b hb in
    record { state = trip.state; same = head-eq_of_cons-eq trip.same }
