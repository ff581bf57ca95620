-- What the call knows and leaves once its tests have answered.
use Rattle.std.specs.Prelude.{Ok}
use mathlib.Core.Path.{◌≡◌, refl, sym, ap, ◌∙◌}
use mathlib.Core.Bool.{Bool, true, false, not}
use mathlib.Core.List.{List}
use Prim.Native.Nat.{ℕ, ◌≤◌}
use borrow.Author.Tests.{leb-true}
use lib.Dec.{leb}
use lib.ListN.{length}
use Rattle.answer.specs.Answer.{Answer}
use Rattle.answer.specs.declared.Refusal.TheVariants.{Output}
use Rattle.answer.specs.Refuse.{is_done}
use Rattle.answer.proofs.Tests.{goes_on, stops}
use Rattle.answer.proofs.Refuse.{unless_done}
use Rattle.answer.proofs.Outcome.{ends_refused, ends_done}
use Rattle.sheet.specs.Read.{place_count}
use Rattle.sheet.specs.SheetAnswer.{sheet_answer}
use Rattle.sheet.proofs.SheetAnswer.{Passed, passes, done_passed, refused_alike}
use Rattle.inverse.specs.Encoding.{Accepted}
use Rattle.inverse.specs.Inverse.{inverse_written, room_answer, inverse_answer, inverse_out}

module _ (w : ℕ) (s out : List ℕ) where
  abbrev new : List ℕ
  new = inverse_written w s out

  abbrev next : Answer
  next = room_answer (length s) (length out)

  -- the call returns r and leaves `last`
  abbrev Ended : Answer → List ℕ → Type 0
  Ended r last = (r ≡ inverse_answer w s out) × (last ≡ inverse_out w s out)

  module _ {found : Answer} (e : found ≡ sheet_answer w true s (Ok (length s))) {done : Bool} (d : done ≡ is_done found) where
    pub sheet_refused : not done ≡ true → Ended found out
    sheet_refused n =
        let same = refused_alike place_count w true s (Ok (length s)) next refl (sym (ap is_done e) ∙ stops d n) in
        ends_refused new out (e ∙ same) d n

    module _ (n : not done ≡ false) where
      passed : Passed place_count w true s
      passed = done_passed place_count w true s (Ok (length s)) (sym (ap is_done e) ∙ goes_on d n)

      pub accepted : Accepted w s
      accepted = passed.sheet

      module _ {room : Answer} (f : room ≡ next) {fits : Bool} (g : fits ≡ is_done room) where
        answered : room ≡ inverse_answer w s out
        answered = f ∙ passes place_count w true s next passed

        pub room_refused : not fits ≡ true → Ended room out
        room_refused = ends_refused new out answered g

        module _ (h : not fits ≡ false) where
          pub room_left : length s ≤ length out
          room_left = leb-true (length s) (length out) (unless_done (leb (length s) (length out)) Output (Ok (length s)) (sym (ap is_done f) ∙ goes_on g h)).0

          pub written : {last : List ℕ} → last ≡ new → Ended room last
          written = ends_done new out answered g h
