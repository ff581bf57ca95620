use mathlib.Core.Path.{◌≡◌, refl, sym, ap₂, ◌∙◌}
use mathlib.Core.List.{List}
use Prim.Native.Nat.{ℕ}
use borrow.Author.Rules.{rules}
use native.Mathlib.Omega.{arith}
use Rattle.shuffle.specs.Transposed.{transposed}
use Rattle.record.proofs.Moved.{row_inside, shuffle_more, shuffle_all}
use Rattle.record.proofs.shuffle.Goals as goal

pub load-x-requires : goal.load-x-requires
load-x-requires c =
    let l = c.loop-g.invariant in
    (refl, row_inside l c.loop-g-test.true _ (omega (arith, l.given)))

pub loop-g-preserved : goal.loop-g-preserved
loop-g-preserved c =
    let a = c.args in
    let p = c.requires.tiled in
    let x = c.load-x.result in
    let e : c.transpose.result ≡ transposed a.q a.k x =
    c.transpose.ensures ∙ ap₂ {C = List ℕ} (λ m n. transposed m n x) (sym p.2) (sym p.3) in
    shuffle_more c.loop-g.invariant c.loop-g-test.true x c.transpose.result _ c.load-x.ensures e c.store.ensures

pub returns : goal.returns
returns c = shuffle_all (search rules) c.loop-g.invariant

pub returns-2 : goal.returns-2
returns-2 c =
    let a = c.args in
    let p = c.requires.tiled in
    let x = c.load-x.result in
    let e : c.transpose.result ≡ transposed a.q a.k x =
    c.transpose.ensures ∙ ap₂ {C = List ℕ} (λ m n. transposed m n x) (sym p.2) (sym p.3) in
    let m = shuffle_more c.loop-g.invariant c.loop-g-test.true x c.transpose.result _ c.load-x.ensures e c.store.ensures in
    shuffle_all (omega arith) m
