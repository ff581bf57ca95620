use mathlib.Core.Path.{◌≡◌, refl, sym, subst}
use borrow.Author.Rules.{rules}
use native.Mathlib.Omega.{arith}
use lib.ListN.{length}
use Rattle.tile.specs.Copy.{Inside}
use Rattle.tile.proofs.Copy.{rows_begin, some_rows, in_tile, rows_next}
use Rattle.tile.proofs.store.Goals as goal

pub loop-n-init : goal.loop-n-init
loop-n-init c =
    let a = c.args in
    let h = c.requires.0 in
    let l : length a.x ≡ 128 = search rules in
    rows_begin (some_rows a.k a.q h) c.requires.1 (subst (Inside a.k a.q 0 a.q) (sym l) (in_tile a.k a.q h))

pub loop-n-preserved : goal.loop-n-preserved
loop-n-preserved c = rows_next c.loop-n.invariant c.loop-n-test.true _ _ (omega arith) refl _ c.copy_strided.ensures
