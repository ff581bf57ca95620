use native.Mathlib.Omega.{arith}
use Rattle.text.proofs.Pushed.{then}
use Rattle.listing.proofs.push_line.Goals as goal

pub returns : goal.returns
returns c =
    record {
      pushed = then c.push_number-first.ensures.pushed (then c.push_name-second.ensures.pushed (then c.push_places-third.ensures.pushed c.push.ensures));
      upper_bound = omega (arith, c.push_number-first.ensures.upper_bound, c.push_name-second.ensures.upper_bound, c.push_places-third.ensures.upper_bound, c.push.ensures.behind);
    }
