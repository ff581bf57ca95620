use native.Mathlib.Omega.{arith}
use Rattle.text.proofs.Pushed.{then}
use Rattle.listing.proofs.push_end.Goals as goal

pub returns : goal.returns
returns c =
    record {
      pushed = then c.push_labelled-first.ensures.pushed (then c.push_spaced-second.ensures.pushed c.push.ensures);
      upper_bound = omega (arith, c.push_labelled-first.ensures.upper_bound, c.push_spaced-second.ensures.upper_bound, c.push.ensures.behind);
    }
