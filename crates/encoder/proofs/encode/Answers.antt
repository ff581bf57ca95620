use mathlib.Core.Path.{ap}
use native.Mathlib.Omega.{arith}
use lib.ListN.{length}
use Rattle.encoder.proofs.encode.Goals as goal

pub put_places-requires : goal.put_places-requires
put_places-requires c = rw c.in-Lmul.is at c.requires

pub put_places-requires-in-Rmul : goal.put_places-requires-in-Rmul
put_places-requires-in-Rmul c = rw c.in-Rmul.is at c.requires

pub put_places-requires-in-Ldiv : goal.put_places-requires-in-Ldiv
put_places-requires-in-Ldiv c = rw c.in-Ldiv.is at c.requires

pub put_places-requires-in-Rdiv : goal.put_places-requires-in-Rdiv
put_places-requires-in-Rdiv c = rw c.in-Rdiv.is at c.requires

pub put_places-requires-in-Swap : goal.put_places-requires-in-Swap
put_places-requires-in-Swap c = rw c.in-Swap.is at c.requires

pub put_place-requires : goal.put_place-requires
put_place-requires c = rw c.in-Flip.is at c.requires

pub immediate_at-requires : goal.immediate_at-requires
immediate_at-requires c =
    let e = rw c.in-Kmul.is at c.requires in
    e.0.within

pub put_immediate-requires : goal.put_immediate-requires
put_immediate-requires c =
    let e = rw c.in-Kmul.is at c.requires in
    (e.0.place, omega (arith, ap length c.immediate_at.ensures))

pub immediate_at-requires-in-Kdiv : goal.immediate_at-requires-in-Kdiv
immediate_at-requires-in-Kdiv c =
    let e = rw c.in-Kdiv.is at c.requires in
    e.0.within

pub put_immediate-requires-in-Kdiv : goal.put_immediate-requires-in-Kdiv
put_immediate-requires-in-Kdiv c =
    let e = rw c.in-Kdiv.is at c.requires in
    (e.0.place, omega (arith, ap length c.immediate_at-in-Kdiv.ensures))

pub returns-in-Lmul : goal.returns-in-Lmul
returns-in-Lmul c = rw c.in-Lmul.is c.put_places.ensures

pub returns-in-Rmul : goal.returns-in-Rmul
returns-in-Rmul c = rw c.in-Rmul.is c.put_places-in-Rmul.ensures

pub returns-in-Ldiv : goal.returns-in-Ldiv
returns-in-Ldiv c = rw c.in-Ldiv.is c.put_places-in-Ldiv.ensures

pub returns-in-Rdiv : goal.returns-in-Rdiv
returns-in-Rdiv c = rw c.in-Rdiv.is c.put_places-in-Rdiv.ensures

pub returns-in-Swap : goal.returns-in-Swap
returns-in-Swap c = rw c.in-Swap.is c.put_places-in-Swap.ensures

pub returns-in-Flip : goal.returns-in-Flip
returns-in-Flip c = rw c.in-Flip.is c.put_place.ensures

pub returns-in-Kmul : goal.returns-in-Kmul
returns-in-Kmul c = rw c.in-Kmul.is (rw c.immediate_at.ensures at c.put_immediate.ensures)

pub returns-in-Kdiv : goal.returns-in-Kdiv
returns-in-Kdiv c = rw c.in-Kdiv.is (rw c.immediate_at-in-Kdiv.ensures at c.put_immediate-in-Kdiv.ensures)
