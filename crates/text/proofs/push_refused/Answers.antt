use mathlib.Core.Path.{subst}
use Prim.Native.Nat.{ℕ}
use native.Mathlib.Omega.{arith}
use Rattle.text.specs.Label.{labelled, refused_word}
use Rattle.text.specs.Pushed.{Pushed}
use Rattle.text.proofs.push_refused.Goals as goal

pub returns : goal.returns
returns c =
    let a = c.args in
    let pushed : ℕ → Type 0 = λ k. Pushed a.out.now 0 (labelled refused_word k) c.push_labelled.new.out c.push_labelled.result in
    record {
      pushed = subst pushed c.refusal_number.ensures.value c.push_labelled.ensures.pushed;
      upper_bound = omega (arith, c.push_labelled.ensures.upper_bound);
    }
