use native.Mathlib.Omega.{arith}
use Rattle.text.proofs.Pushed.{then}
use Rattle.listing.proofs.push_both.Goals as goal

pub returns : goal.returns
returns c =
    record {
      pushed = then c.push_spaced-next.ensures.pushed c.push_spaced.ensures.pushed;
      upper_bound = omega (arith, c.push_spaced-next.ensures.upper_bound, c.push_spaced.ensures.upper_bound);
    }
