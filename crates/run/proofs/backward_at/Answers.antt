use mathlib.Core.Path.{◌≡◌, sym, ap, ◌∙◌}
use mathlib.Core.Bool.{true}
use Prim.Native.Nat.{◌*◌}
use native.Mathlib.Omega.{arith}
use borrow.Author.Rules.{rules}
use borrow.Author.Tests.{eqb-true}
use lib.Dec.{eqb}
use lib.ListN.{length, replicate}
use Rattle.std.specs.Prelude.{Err}
use Rattle.answer.specs.declared.Refused.{Refused}
use Rattle.answer.proofs.Results.{handed_on, held, failed}
use Rattle.sheet.specs.Read.{place_count}
use Rattle.invertible.specs.RoundTrip.{Backward}
use Rattle.sheet.proofs.Checked.{whole_offsets}
use Rattle.sheet.proofs.Ran.{size_refused, fault_refused}
use Rattle.run.proofs.Whole.{backward_whole}
use Rattle.run.proofs.backward_at.Goals as goal

pub returns-in_err-require : goal.returns-in_err-require
returns-in_err-require c =
    let a = c.args in
    let f = failed _ _ c.in_err-require.ensures in
    let both = size_refused Backward a.width a.sheet.now a.vectors.now c.requires (sym c.vectors_fit.ensures ∙ f.0) in
    record {
      value = handed_on _ c.from_residual.ensures ∙ ap (λ (x : Refused). Err x) f.1 ∙ both.0;
      vectors_after = both.1;
    }

pub returns-in_err-counts : goal.returns-in_err-counts
returns-in_err-counts c =
    let a = c.args in
    let x = c.in_err-counts.field-0.0 in
    let both = fault_refused Backward a.width a.sheet.now a.vectors.now c.requires (sym c.vectors_fit.ensures ∙ held _ _ c.in_ok-require.ensures)
    x.refusal x.offset c.in_err-counts.ensures.value in
    record {
      value = handed_on _ c.from_residual-in_err-counts.ensures ∙ both.0;
      vectors_after = both.1;
    }

pub slice_bounds-offsets-end : goal.slice_bounds-offsets-end
slice_bounds-offsets-end c =
    let a = c.args in
    (whole_offsets a.width a.sheet.now c.in_ok-counts.ensures.value (replicate 2048 0) (search rules) c.check.ensures.offsets_after).0

pub slice_bounds-backward-end : goal.slice_bounds-backward-end
slice_bounds-backward-end c =
    let a = c.args in
    let few = (whole_offsets a.width a.sheet.now c.in_ok-counts.ensures.value (replicate 2048 0) (search rules) c.check.ensures.offsets_after).0 in
    search rules

pub backward-requires : goal.backward-requires
backward-requires c =
    (c.requires, eqb-true (length c.args.vectors.now) (place_count * c.args.width) (sym c.vectors_fit.ensures ∙ held _ _ c.in_ok-require.ensures))

pub returns : goal.returns
returns c =
    let a = c.args in
    let e = c.in_ok-counts.ensures.value in
    let both = backward_whole a.width a.sheet.now a.vectors.now e c.requires (sym c.vectors_fit.ensures ∙ held _ _ c.in_ok-require.ensures)
    c.backward.new.vectors (λ i. omega (arith, c.type_inv.vectors i)) (search rules) _
    (whole_offsets a.width a.sheet.now e (replicate 2048 0) (search rules) c.check.ensures.offsets_after).1 c.backward.ensures in
    record {
      value = both.0;
      vectors_after = both.1;
    }
