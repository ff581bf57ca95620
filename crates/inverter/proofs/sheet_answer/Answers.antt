use Rattle.std.specs.Prelude.{Ok, Err}
use mathlib.Core.Path.{refl, sym, ap, ◌∙◌}
use mathlib.Core.Bool.{true}
use lib.ListN.{length}
use Rattle.answer.specs.declared.Refused.{Refused}
use Rattle.answer.proofs.Results.{handed_on, held, failed}
use Rattle.sheet.specs.Read.{place_count}
use Rattle.sheet.proofs.SheetAnswer.{width_refused, fault_refused, passes}
use Rattle.sheet.proofs.Checked.{checked, faulted}
use Rattle.inverter.proofs.sheet_answer.Goals as goal

pub returns-in_err-require : goal.returns-in_err-require
returns-in_err-require c =
    let s = c.args.sheet.now in
    let f = failed _ _ c.in_err-require.ensures in
    handed_on _ c.from_residual.ensures ∙ ap (λ (x : Refused). Err x) f.1
    ∙ width_refused place_count c.args.width true s (Ok (length s)) (sym c.known_width.ensures ∙ f.0)

pub returns-in_err-check : goal.returns-in_err-check
returns-in_err-check c =
    let a = c.args in
    let s = a.sheet.now in
    let x = c.in_err-check.field-0.0 in
    handed_on _ c.from_residual-in_err-check.ensures
    ∙ fault_refused place_count a.width true s (Ok (length s)) (sym c.known_width.ensures ∙ held _ _ c.in_ok-require.ensures) refl x.refusal x.offset
    (faulted a.width s _ _ c.in_err-check.ensures.value)

pub returns : goal.returns
returns c =
    let a = c.args in
    let s = a.sheet.now in
    let e = checked a.width s c.in_ok-check.ensures.value in
    passes place_count a.width true s (Ok (length s)) (record { width = sym c.known_width.ensures ∙ held _ _ c.in_ok-require.ensures; operands = refl; sheet = e.sound })
