use mathlib.Core.Path.{refl}
use native.Mathlib.Omega.{arith}
use borrow.Author.Rules.{rules}
use Rattle.text.proofs.Partly.{none_yet}
use Rattle.distance_report.specs.Report.{lines}
use Rattle.distance_report.proofs.Lines.{lines_more, lines_end}
use Rattle.distance_report.proofs.push_lines.Goals as goal

pub loop-k-preserved : goal.loop-k-preserved
loop-k-preserved c =
    let i = c.loop-k.invariant in
    let counts = c.args.counts.now in
    (i.0, omega arith, omega (arith, c.push_line-next.ensures.upper_bound), search rules, lines_more counts c.loop-k.k i.4 c.push_line-next.new.out c.push_line-next.result (omega arith) c.push_line-next.ensures.pushed)
