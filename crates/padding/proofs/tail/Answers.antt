use mathlib.Core.List.{[], ◌∷◌}
use native.Mathlib.Omega.{arith}
use lib.ListN.{length}
use Rattle.digest.proofs.Tail.{tail_one, tail_two}
use Rattle.digest.proofs.Buffer.{on_zeros}
use borrow.Author.Rules.{rules}
use Rattle.padding.proofs.tail.Goals as goal

pub returns-then-w-block : goal.returns-then-w-block
returns-then-w-block c =
    let a = c.args in
    let p = c.requires in
    let e = on_zeros a.buf.now a.w.now (a.mark ∷ []) p.3 (omega arith) c.copy_at.ensures c.copy_at-2.ensures in
    let l = length a.buf.now in
    (search rules, tail_one a.block l a.w.now a.mark a.bits p.0 p.1 p.2 e (search rules) c.store.ensures.out_after)

pub returns : goal.returns
returns c =
    let a = c.args in
    let p = c.requires in
    let e = on_zeros a.buf.now a.w.now (a.mark ∷ []) p.3 (omega arith) c.copy_at.ensures c.copy_at-2.ensures in
    let l = length a.buf.now in
    (search rules, tail_two a.block l a.w.now a.mark a.bits p.0 p.1 p.2 e (search rules) c.store-2.ensures.out_after)
