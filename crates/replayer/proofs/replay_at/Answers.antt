use mathlib.Core.Path.{◌≡◌, sym, ap, ◌∙◌}
use Prim.Native.Nat.{◌*◌}
use native.Mathlib.Omega.{arith}
use borrow.Author.Rules.{rules}
use borrow.Author.Tests.{eqb-true}
use lib.ListN.{length}
use Rattle.std.specs.Prelude.{Err}
use Rattle.answer.specs.declared.Refused.{Refused}
use Rattle.answer.proofs.Results.{handed_on, held, failed}
use Rattle.sheet.specs.Read.{place_count}
use Rattle.replayer.proofs.Tested.{copied, whole_records, size_refused, fault_refused, records_refused, replayed}
use Rattle.replayer.proofs.replay_at.Goals as goal

pub returns-in_err-require : goal.returns-in_err-require
returns-in_err-require c =
    let a = c.args in
    let f = failed _ _ c.in_err-require.ensures in
    handed_on _ c.from_residual.ensures ∙ ap (λ (x : Refused). Err x) f.1
    ∙ size_refused a.width a.sheet.now a.vectors.now a.records.now c.requires.0 (sym c.vectors_fit.ensures ∙ f.0)

pub returns-in_err-counts : goal.returns-in_err-counts
returns-in_err-counts c =
    let a = c.args in
    let x = c.in_err-counts.field-0.0 in
    handed_on _ c.from_residual-in_err-counts.ensures
    ∙ fault_refused a.width a.sheet.now a.vectors.now a.records.now c.requires.0 (sym c.vectors_fit.ensures ∙ held _ _ c.in_ok-require.ensures) x.refusal x.offset c.in_err-counts.ensures.value

pub returns-in_err-records_answer : goal.returns-in_err-records_answer
returns-in_err-records_answer c =
    let a = c.args in
    let x = c.in_err-records_answer.field-0.0 in
    handed_on _ c.from_residual-in_err-records_answer.ensures
    ∙ records_refused a.width a.sheet.now a.vectors.now a.records.now c.requires.0 (sym c.vectors_fit.ensures ∙ held _ _ c.in_ok-require.ensures)
    c.in_ok-counts.ensures.value c.records_answer.ensures x.refusal x.offset c.in_err-records_answer.was

pub copy_at-requires : goal.copy_at-requires
copy_at-requires c =
    let a = c.args in
    omega (arith, c.requires.1, eqb-true (length a.vectors.now) (place_count * a.width) (sym c.vectors_fit.ensures ∙ held _ _ c.in_ok-require.ensures))

pub first_false-requires : goal.first_false-requires
first_false-requires c =
    let a = c.args in
    let whole = whole_records a.width (length a.records.now) c.in_ok-counts.counts.commands _ c.records_answer.ensures c.in_ok-records_answer.was in
    (c.requires.0, search (rules, c.requires.1), whole)

pub returns : goal.returns
returns c =
    let a = c.args in
    let h = sym c.vectors_fit.ensures ∙ held _ _ c.in_ok-require.ensures in
    let e : length a.vectors.now ≡ place_count * a.width = eqb-true (length a.vectors.now) (place_count * a.width) h in
    replayed a.width a.sheet.now a.vectors.now a.records.now c.requires.0 h c.in_ok-counts.ensures.value c.records_answer.ensures _ c.in_ok-records_answer.was c.copy_at.new.dst
    (copied a.vectors.now a.state.now (e ∙ sym c.requires.1) c.copy_at.ensures) c.first_false.ensures.result_value
