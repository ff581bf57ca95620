use mathlib.Core.Path.{◌≡◌}
use Prim.Native.Nat.{◌^◌, ◌<◌}
use native.Mathlib.Omega.{arith}
use borrow.Author.Rules.{rules}
use lib.ListN.{length, get_or}
use Rattle.memory.proofs.Bytes.{eight_stores}
use Rattle.lent_words.proofs.Written.{stored, below, each}
use Rattle.lent_words.proofs.store_vector.Goals as goal

pub returns-clause-out_after : goal.returns-clause-out_after
returns-clause-out_after g c =
    let a = c.args in
    let b = g.U.LentWord.BYTES in
    let l : length a.v ≡ 8 = search rules in
    eight_stores b a.out.now a.v l (search rules)
    (stored b a.out.now a.v 0 _ c.store.ensures.out_after (omega arith) (omega (arith, l)))
    (stored b c.store.new.out a.v 1 _ c.store-2.ensures.out_after (omega arith) (omega (arith, l)))
    (stored b c.store-2.new.out a.v 2 _ c.store-3.ensures.out_after (omega arith) (omega (arith, l)))
    (stored b c.store-3.new.out a.v 3 _ c.store-4.ensures.out_after (omega arith) (omega (arith, l)))
    (stored b c.store-4.new.out a.v 4 _ c.store-5.ensures.out_after (omega arith) (omega (arith, l)))
    (stored b c.store-5.new.out a.v 5 _ c.store-6.ensures.out_after (omega arith) (omega (arith, l)))
    (stored b c.store-6.new.out a.v 6 _ c.store-7.ensures.out_after (omega arith) (omega (arith, l)))
    (stored b c.store-7.new.out a.v 7 _ c.store-8.ensures.out_after (omega arith) (omega (arith, l)))

pub returns-clause-fits : goal.returns-clause-fits
returns-clause-fits g c =
    let a = c.args in
    let m = 2 ^ g.U.Unsigned.width in
    let l : length a.v ≡ 8 = search rules in
    each (λ i. get_or a.v i 0 < m)
    (below m a.v 0 _ c.store.ensures.fits (omega (arith, l)))
    (below m a.v 1 _ c.store-2.ensures.fits (omega (arith, l)))
    (below m a.v 2 _ c.store-3.ensures.fits (omega (arith, l)))
    (below m a.v 3 _ c.store-4.ensures.fits (omega (arith, l)))
    (below m a.v 4 _ c.store-5.ensures.fits (omega (arith, l)))
    (below m a.v 5 _ c.store-6.ensures.fits (omega (arith, l)))
    (below m a.v 6 _ c.store-7.ensures.fits (omega (arith, l)))
    (below m a.v 7 _ c.store-8.ensures.fits (omega (arith, l)))
