use native.Mathlib.Omega.{arith}
use Rattle.text.specs.Decimal.{spaced}
use Rattle.text.specs.Pushed.{Pushed}
use Rattle.text.proofs.Pushed.{then}
use Rattle.text.proofs.push_labelled.Goals as goal

pub returns : goal.returns
returns c =
    let a = c.args in
    let number : Pushed c.push_text-next.new.out c.push_text-next.result (spaced a.n) c.push_spaced.new.out c.push_spaced.result = c.push_spaced.ensures.pushed in
    record {
      pushed = then c.push_text-next.ensures number;
      upper_bound = omega (arith, c.push_text-next.ensures.behind, c.push_spaced.ensures.upper_bound);
    }
