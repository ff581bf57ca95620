use mathlib.Core.Path.{sym, ap, ◌∙◌}
use Prim.Native.Nat.{◌*◌}
use native.Mathlib.Omega.{arith}
use borrow.Author.Rules.{rules}
use borrow.Author.Tests.{eqb-true}
use lib.ListN.{length}
use Rattle.std.specs.Prelude.{Err}
use Rattle.answer.specs.declared.Refused.{Refused}
use Rattle.answer.proofs.Results.{handed_on, held, failed}
use Rattle.sheet.specs.Read.{place_count}
use Rattle.slicer.proofs.Sliced.{size_refused, start_refused, offsets_fit, units_fit, slice_ran}
use Rattle.slicer.proofs.slice_at.Goals as goal

pub returns-in_err-require : goal.returns-in_err-require
returns-in_err-require c =
    let a = c.args in
    let f = failed _ _ c.in_err-require.ensures in
    let both = size_refused a.budget a.width a.sheet.now a.start a.vectors.now c.requires (sym c.vectors_fit.ensures ∙ f.0) in
    record {
      value = handed_on _ c.from_residual.ensures ∙ ap (λ (x : Refused). Err x) f.1 ∙ both.0;
      vectors_after = both.1;
    }

pub returns-in_err-_whole : goal.returns-in_err-_whole
returns-in_err-_whole c =
    let a = c.args in
    let x = c.in_err-_whole.field-0.0 in
    let both = start_refused a.budget a.width a.sheet.now a.start a.vectors.now c.requires (sym c.vectors_fit.ensures ∙ held _ _ c.in_ok-require.ensures)
    c.start_answer.ensures x.refusal x.offset c.in_err-_whole.was in
    record {
      value = handed_on _ c.from_residual-in_err-_whole.ensures ∙ both.0;
      vectors_after = both.1;
    }

pub advance-p-requires : goal.advance-p-requires
advance-p-requires c =
    (c.requires, eqb-true (length c.args.vectors.now) (place_count * c.args.width) (sym c.vectors_fit.ensures ∙ held _ _ c.in_ok-require.ensures))

pub overflow_cast-offset : goal.overflow_cast-offset
overflow_cast-offset c =
    let a = c.args in
    let h = offsets_fit a.budget a.width a.sheet.now a.start a.vectors.now c.requires (sym c.vectors_fit.ensures ∙ held _ _ c.in_ok-require.ensures)
    c.start_answer.ensures c.in_ok-_whole.was c.advance-p.new.vectors c.advance-p.ensures in
    omega (arith, h.0, h.1)

pub overflow_cast-units : goal.overflow_cast-units
overflow_cast-units c =
    let a = c.args in
    let h = units_fit a.budget a.width a.sheet.now a.start a.vectors.now c.requires (sym c.vectors_fit.ensures ∙ held _ _ c.in_ok-require.ensures)
    c.start_answer.ensures c.in_ok-_whole.was c.advance-p.new.vectors c.advance-p.ensures in
    omega (arith, h.0, h.1)

pub returns : goal.returns
returns c =
    let a = c.args in
    let both = slice_ran a.budget a.width a.sheet.now a.start a.vectors.now c.requires (sym c.vectors_fit.ensures ∙ held _ _ c.in_ok-require.ensures)
    c.start_answer.ensures c.in_ok-_whole.was c.advance-p.new.vectors c.advance-p.ensures
    (λ i. omega (arith, c.type_inv.vectors i)) (search rules) in
    record {
      value = both.0;
      vectors_after = both.1;
    }
