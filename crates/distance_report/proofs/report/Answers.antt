use mathlib.Core.Path.{sym, ◌∙◌}
use native.Mathlib.Omega.{arith}
use Rattle.text.specs.Pushed.{Pushed}
use Rattle.text.proofs.Pushed.{then, finished}
use Rattle.distance_report.specs.Report.{total_line}
use Rattle.distance_report.proofs.Reported.{within, taken, few, reported, reported_refusal}
use Rattle.distance_report.proofs.report.Goals as goal

pub slice_bounds-counts-end : goal.slice_bounds-counts-end
slice_bounds-counts-end c =
    let a = c.args in
    within a.records.now _ _ (sym c.in-Ok.is ∙ c.flipped_bits.ensures.value) c.flipped_bits.ensures.counts_after

pub slice_bounds-push_lines-end : goal.slice_bounds-push_lines-end
slice_bounds-push_lines-end c =
    let a = c.args in
    taken a.records.now _ _ (sym c.in-Ok.is ∙ c.flipped_bits.ensures.value) c.flipped_bits.ensures.counts_after

pub push_lines-at-requires : goal.push_lines-at-requires
push_lines-at-requires c =
    let a = c.args in
    few a.records.now _ _ (sym c.in-Ok.is ∙ c.flipped_bits.ensures.value) c.flipped_bits.ensures.counts_after

pub returns-in-Ok : goal.returns-in-Ok
returns-in-Ok c =
    let a = c.args in
    let end = total_line c.in-Ok.sum in
    let last : Pushed c.push_lines-at.new.out c.push_lines-at.result end c.push_total.new.out c.push_total.result = c.push_total.ensures.pushed in
    let f = finished (then c.push_lines-at.ensures.pushed last)
    (reported a.records.now _ _ (sym c.in-Ok.is ∙ c.flipped_bits.ensures.value) c.flipped_bits.ensures.counts_after) in
    record {
      out_after = f.0;
      value = f.1;
      upper_bound = omega (arith, c.push_lines-at.ensures.upper_bound, c.push_total.ensures.upper_bound);
    }

pub returns-in-Err : goal.returns-in-Err
returns-in-Err c =
    let a = c.args in
    let f = finished c.push_refusal.ensures.pushed
    (reported_refusal a.records.now c.in-Err.e.refusal c.in-Err.e.offset (sym c.in-Err.is ∙ c.flipped_bits.ensures.value)) in
    record {
      out_after = f.0;
      value = f.1;
      upper_bound = omega (arith, c.push_refusal.ensures.upper_bound);
    }
