use native.Mathlib.Omega.{arith}
use Rattle.listing.proofs.push_places.Goals as goal

pub returns-in-Lmul : goal.returns-in-Lmul
returns-in-Lmul c =
    record {
      pushed = rw c.in-Lmul.is c.push_both.ensures.pushed;
      upper_bound = omega (arith, c.push_both.ensures.upper_bound);
    }

pub returns-in-Rmul : goal.returns-in-Rmul
returns-in-Rmul c =
    record {
      pushed = rw c.in-Rmul.is c.push_both-in-Rmul.ensures.pushed;
      upper_bound = omega (arith, c.push_both-in-Rmul.ensures.upper_bound);
    }

pub returns-in-Ldiv : goal.returns-in-Ldiv
returns-in-Ldiv c =
    record {
      pushed = rw c.in-Ldiv.is c.push_both-in-Ldiv.ensures.pushed;
      upper_bound = omega (arith, c.push_both-in-Ldiv.ensures.upper_bound);
    }

pub returns-in-Rdiv : goal.returns-in-Rdiv
returns-in-Rdiv c =
    record {
      pushed = rw c.in-Rdiv.is c.push_both-in-Rdiv.ensures.pushed;
      upper_bound = omega (arith, c.push_both-in-Rdiv.ensures.upper_bound);
    }

pub returns-in-Swap : goal.returns-in-Swap
returns-in-Swap c =
    record {
      pushed = rw c.in-Swap.is c.push_both-in-Swap.ensures.pushed;
      upper_bound = omega (arith, c.push_both-in-Swap.ensures.upper_bound);
    }

pub returns-in-Flip : goal.returns-in-Flip
returns-in-Flip c =
    record {
      pushed = rw c.in-Flip.is c.push_spaced.ensures.pushed;
      upper_bound = omega (arith, c.push_spaced.ensures.upper_bound);
    }

pub returns-in-Kmul : goal.returns-in-Kmul
returns-in-Kmul c =
    record {
      pushed = rw c.in-Kmul.is c.push_spaced-in-Kmul.ensures.pushed;
      upper_bound = omega (arith, c.push_spaced-in-Kmul.ensures.upper_bound);
    }

pub returns-in-Kdiv : goal.returns-in-Kdiv
returns-in-Kdiv c =
    record {
      pushed = rw c.in-Kdiv.is c.push_spaced-in-Kdiv.ensures.pushed;
      upper_bound = omega (arith, c.push_spaced-in-Kdiv.ensures.upper_bound);
    }
