use mathlib.Core.Path.{◌∙◌, subst}
use mathlib.Core.List.{List}
use Prim.Native.Nat.{ℕ}
use native.Mathlib.Omega.{arith}
use borrow.Author.Rules.{rules}
use Rattle.text.specs.Pushed.{Pushed}
use Rattle.text.proofs.Decimal.{decimal_written, twenty}
use Rattle.text.proofs.push_number.Goals as goal

pub push_text-requires : goal.push_text-requires
push_text-requires c =
    let a = c.args in
    omega (arith, c.decimal-k.ensures.in_bounds.1, twenty c.decimal-k.result a.n c.decimal-k.ensures.len (search rules))

pub returns : goal.returns
returns c =
    let a = c.args in
    let pushed : List ℕ → Type 0 = λ t. Pushed a.out.now a.at t c.push_text.new.out c.push_text.result in
    record {
      pushed = subst pushed (c.decimal-k.ensures.digits ∙ decimal_written c.decimal-k.result a.n c.decimal-k.ensures.len) c.push_text.ensures;
      upper_bound = omega (arith, c.push_text.ensures.behind, c.decimal-k.ensures.in_bounds.1, twenty c.decimal-k.result a.n c.decimal-k.ensures.len (search rules));
    }
