use mathlib.Core.Path.{refl, sym, ap, ◌∙◌}
use mathlib.Core.Bool.{not}
use Rattle.answer.specs.Answer.{Answer}
use Rattle.answer.specs.Refuse.{is_done}
use Rattle.answer.proofs.Results.{handed_on}
use Rattle.inverter.proofs.Called.{sheet_refused, accepted, room_refused, room_left, written}
use Rattle.inverter.proofs.inverse_sheet.Goals as goal

pub returns-in_err-sheet_answer : goal.returns-in_err-sheet_answer
returns-in_err-sheet_answer c =
    let a = c.args in
    let both = sheet_refused a.width a.sheet.now a.out.now c.sheet_answer.ensures refl (ap (λ (x : Answer). not (is_done x)) c.in_err-sheet_answer.was) in
    record {
      value = handed_on _ c.from_residual.ensures ∙ sym c.in_err-sheet_answer.was ∙ both.0;
      out_after = both.1;
    }

pub returns-in_err-written : goal.returns-in_err-written
returns-in_err-written c =
    let a = c.args in
    let both = room_refused a.width a.sheet.now a.out.now c.sheet_answer.ensures refl (ap (λ (x : Answer). not (is_done x)) c.in_ok-sheet_answer.was)
    c.room_answer.ensures refl (ap (λ (x : Answer). not (is_done x)) c.in_err-written.was) in
    record {
      value = handed_on _ c.from_residual-in_err-written.ensures ∙ sym c.in_err-written.was ∙ both.0;
      out_after = both.1;
    }

pub write_inverse-requires : goal.write_inverse-requires
write_inverse-requires c =
    let a = c.args in
    let passed = ap (λ (x : Answer). not (is_done x)) c.in_ok-sheet_answer.was in (
      accepted a.width a.sheet.now a.out.now c.sheet_answer.ensures refl passed,
      room_left a.width a.sheet.now a.out.now c.sheet_answer.ensures refl passed c.room_answer.ensures refl (ap (λ (x : Answer). not (is_done x)) c.in_ok-written.was),
    )

pub returns : goal.returns
returns c =
    let a = c.args in
    let both = written a.width a.sheet.now a.out.now c.sheet_answer.ensures refl (ap (λ (x : Answer). not (is_done x)) c.in_ok-sheet_answer.was)
    c.room_answer.ensures refl (ap (λ (x : Answer). not (is_done x)) c.in_ok-written.was) c.write_inverse.ensures in
    record {
      value = sym c.in_ok-written.was ∙ both.0;
      out_after = both.1;
    }
