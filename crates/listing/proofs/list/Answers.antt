use mathlib.Core.Path.{sym, ◌∙◌}
use native.Mathlib.Omega.{arith}
use Rattle.sheet.proofs.Checked.{short}
use Rattle.text.proofs.Pushed.{then, finished}
use Rattle.listing.proofs.Lines.{listed_whole, listed_faulty}
use Rattle.listing.proofs.list.Goals as goal

pub push_lines-at-requires : goal.push_lines-at-requires
push_lines-at-requires c =
    let a = c.args in
    short a.width a.sheet.now (sym c.in-Ok.is ∙ c.check.ensures.value)

pub returns-in-Ok : goal.returns-in-Ok
returns-in-Ok c =
    let a = c.args in
    let f = finished (then c.push_lines-at.ensures.fact c.push_end.ensures.pushed) (listed_whole a.width a.sheet.now (sym c.in-Ok.is ∙ c.check.ensures.value)) in
    record {
      out_after = f.0;
      value = f.1;
      upper_bound = omega (arith, c.push_lines-at.ensures.upper_bound, c.push_end.ensures.upper_bound);
    }

pub returns-in-Err : goal.returns-in-Err
returns-in-Err c =
    let a = c.args in
    let f = finished c.push_refused.ensures.pushed (listed_faulty a.width a.sheet.now c.in-Err.e.refusal c.in-Err.e.offset (sym c.in-Err.is ∙ c.check.ensures.value)) in
    record {
      out_after = f.0;
      value = f.1;
      upper_bound = omega (arith, c.push_refused.ensures.upper_bound);
    }
