use mathlib.Core.Path.{ap, ◌∙◌}
use Prim.Native.Nat.{ℕ}
use native.Mathlib.Omega.{arith}
use borrow.Author.Rules.{rules}
use borrow.Author.Tests.{tests}
use lib.Dec.{eqb}
use Rattle.std.proofs.lemmas.Iterator.{YieldsList-from_slice, YieldsList-from_zip}
use Rattle.std.proofs.lemmas.Iterator.Consumers.{fold_from_yields_List}
use Rattle.hmac.proofs.Compared.{other_length, with_difference, all_compared}
use Rattle.equality.proofs.same.Goals as goal

pub returns-then-a-b : goal.returns-then-a-b
returns-then-a-b c = other_length c.args.a.now c.args.b.now c.if-a-b.true

pub returns : goal.returns
returns c =
    let a = c.args in
    let bits = fold_from_yields_List _ with_difference 0 c.fold.result c.fold.ensures.ran
    (YieldsList-from_zip (YieldsList-from_slice a.a.now cc) (YieldsList-from_slice a.b.now cc)) (λ z p b q k. search (rules, tests)) in
    ap (λ (n : ℕ). eqb n 0) bits ∙ all_compared 0 a.a.now a.b.now (omega arith)
