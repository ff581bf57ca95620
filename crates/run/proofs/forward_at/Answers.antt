use mathlib.Core.Path.{◌≡◌, sym, ap, ◌∙◌}
use mathlib.Core.Bool.{true}
use Prim.Native.Nat.{◌*◌}
use native.Mathlib.Omega.{arith}
use borrow.Author.Rules.{rules}
use borrow.Author.Tests.{eqb-true}
use lib.Dec.{eqb}
use lib.ListN.{length, replicate}
use Rattle.std.specs.Prelude.{Err}
use Rattle.answer.specs.declared.Refused.{Refused}
use Rattle.answer.proofs.Results.{handed_on, held, failed}
use Rattle.sheet.specs.Read.{place_count}
use Rattle.invertible.specs.RoundTrip.{Forward}
use Rattle.sheet.proofs.Checked.{whole_offsets}
use Rattle.sheet.proofs.Ran.{size_refused, fault_refused}
use Rattle.run.proofs.Whole.{forward_whole}
use Rattle.run.proofs.forward_at.Goals as goal

pub returns-in_err-require : goal.returns-in_err-require
returns-in_err-require c =
    let a = c.args in
    let f = failed _ _ c.in_err-require.ensures in
    let both = size_refused Forward a.width a.sheet.now a.vectors.now c.requires (sym c.vectors_fit.ensures ∙ f.0) in
    record {
      value = handed_on _ c.from_residual.ensures ∙ ap (λ (x : Refused). Err x) f.1 ∙ both.0;
      vectors_after = both.1;
    }

pub returns-in_err-counts : goal.returns-in_err-counts
returns-in_err-counts c =
    let a = c.args in
    let x = c.in_err-counts.field-0.0 in
    let both = fault_refused Forward a.width a.sheet.now a.vectors.now c.requires (sym c.vectors_fit.ensures ∙ held _ _ c.in_ok-require.ensures)
    x.refusal x.offset c.in_err-counts.ensures.value in
    record {
      value = handed_on _ c.from_residual-in_err-counts.ensures ∙ both.0;
      vectors_after = both.1;
    }

pub forward-requires : goal.forward-requires
forward-requires c =
    (c.requires, eqb-true (length c.args.vectors.now) (place_count * c.args.width) (sym c.vectors_fit.ensures ∙ held _ _ c.in_ok-require.ensures))

pub returns : goal.returns
returns c =
    let a = c.args in
    let both = forward_whole a.width a.sheet.now a.vectors.now c.in_ok-counts.ensures.value c.requires
    (sym c.vectors_fit.ensures ∙ held _ _ c.in_ok-require.ensures) c.forward.new.vectors (λ i. omega (arith, c.type_inv.vectors i)) (search rules) c.forward.ensures in
    record {
      value = both.0;
      vectors_after = both.1;
    }
