use mathlib.Core.Path.{◌≡◌, refl, sym, ap₂, ◌∙◌}
use mathlib.Core.List.{List}
use Prim.Native.Nat.{ℕ}
use borrow.Author.Rules.{rules}
use native.Mathlib.Omega.{arith}
use Rattle.shuffle.specs.Transposed.{transposed}
use Rattle.record.proofs.Moved.{row_inside, restore_more, restore_all}
use Rattle.record.proofs.restore.Goals as goal

pub store-requires : goal.store-requires
store-requires c =
    let l = c.loop-g.invariant in
    (refl, row_inside l c.loop-g-test.true _ (omega (arith, l.size, l.room)))

pub loop-g-preserved : goal.loop-g-preserved
loop-g-preserved c =
    let a = c.args in
    let p = c.requires.tiled in
    let x = c.load-x.result in
    let e : c.transpose.result ≡ transposed a.k a.q x =
    c.transpose.ensures ∙ ap₂ {C = List ℕ} (λ m n. transposed m n x) (sym p.2) (sym p.3) in
    restore_more c.loop-g.invariant c.loop-g-test.true x c.transpose.result _ c.load-x.ensures e c.store.ensures

pub returns : goal.returns
returns c = restore_all (search rules) c.loop-g.invariant

pub returns-2 : goal.returns-2
returns-2 c =
    let a = c.args in
    let p = c.requires.tiled in
    let x = c.load-x.result in
    let e : c.transpose.result ≡ transposed a.k a.q x =
    c.transpose.ensures ∙ ap₂ {C = List ℕ} (λ m n. transposed m n x) (sym p.2) (sym p.3) in
    let m = restore_more c.loop-g.invariant c.loop-g-test.true x c.transpose.result _ c.load-x.ensures e c.store.ensures in
    restore_all (omega arith) m
