use native.Mathlib.Omega.{arith}
use Rattle.text.proofs.Pushed.{then}
use Rattle.distance_report.proofs.push_refusal.Goals as goal

pub returns : goal.returns
returns c =
    record {
      pushed = then c.push_refused-next.ensures.pushed c.push.ensures;
      upper_bound = omega (arith, c.push_refused-next.ensures.upper_bound, c.push.ensures.behind);
    }
