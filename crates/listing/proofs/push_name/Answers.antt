use mathlib.Core.Path.{◌≡◌, subst}
use mathlib.Core.List.{List}
use Prim.Native.Nat.{ℕ}
use lib.ListN.{length}
use native.Mathlib.Omega.{arith}
use borrow.Author.Rules.{rules}
use Rattle.text.specs.Pushed.{Pushed}
use Rattle.text.proofs.Pushed.{then}
use Rattle.listing.proofs.push_name.Goals as goal

pub returns : goal.returns
returns c =
    let l : length c.name-text.result ≡ 4 = search rules in
    let pushed : List ℕ → Type 0 = λ l. Pushed c.push-next.new.out c.push-next.result l c.push_text.new.out c.push_text.result in
    let t = subst pushed c.name-text.ensures c.push_text.ensures in
    record {
      pushed = then c.push-next.ensures t;
      upper_bound = omega (arith, c.push-next.ensures.behind, c.push_text.ensures.behind, l);
    }
