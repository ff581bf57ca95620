use mathlib.Core.Path.{sym, ◌∙◌}
use native.Mathlib.Omega.{arith}
use borrow.Author.Rules.{rules}
use Prim.Native.Nat.{◌<◌}
use lib.ListN.{length-take}
use lib.Seq.{length-take-le}
use Rattle.digest.specs.Step.{step}
use Rattle.digest.proofs.Absorb.{absorb_none, absorb_few, absorb_many}
use Rattle.hash.proofs.absorb.Goals as goal

pub returns-then-a-eq0 : goal.returns-then-a-eq0
returns-then-a-eq0 g c =
    let a = c.args in
    let pos : 0 < g.row.BLOCK = omega (arith, c.requires.1) in
    absorb_none g.row.BLOCK pos (step g.U.Width.tables) a.p a.a.now a.s.now c.if-a-eq0.true c.straight.ensures

pub returns-then-s-need : goal.returns-then-s-need
returns-then-s-need g c =
    let a = c.args in
    let pos : 0 < g.row.BLOCK = omega (arith, c.requires.1) in
    let t = absorb_few g.row.BLOCK pos (step g.U.Width.tables) a.p a.a.now a.s.now (omega arith) in
    (t.0, c.hold-waiting.ensures ∙ t.1)

pub slice_bounds-hold-end : goal.slice_bounds-hold-end
slice_bounds-hold-end g c = sym (length-take-le _ _ (search rules))

pub hold-first-requires : goal.hold-first-requires
hold-first-requires g c = simp length-take (omega arith)

pub returns : goal.returns
returns g c =
    let a = c.args in
    let pos : 0 < g.row.BLOCK = omega (arith, c.requires.1) in
    absorb_many g.row.BLOCK pos (step g.U.Width.tables) a.p a.a.now a.s.now (search rules) (search rules)
    c.hold-first.ensures c.step-q.ensures c.straight-2.ensures
