use mathlib.Core.Path.{refl}
use native.Mathlib.Omega.{arith}
use Rattle.quasigroup.proofs.Widths.{bytewise}
use Rattle.comparison.proofs.Chunks.{next, holds_all}
use Rattle.comparison.proofs.record_holds.Goals as goal

pub loop-k-preserved : goal.loop-k-preserved
loop-k-preserved c =
    let a = c.args in
    let w = bytewise a.width c.requires.0 in
    next a.width w a.records.now (λ i. omega (arith, c.type_inv.records i)) a.from a.state.now
    (λ i. omega (arith, c.type_inv.state i)) c.requires.2 c.requires.1 c.loop-k.bits c.loop-k.k _ refl c.loop-k.invariant
    c.loop-k-test.true refl refl c.differing_bits-bits.result c.differing_bits-bits.ensures

pub returns : goal.returns
returns c =
    let a = c.args in
    holds_all a.width (bytewise a.width c.requires.0) a.records.now (λ i. omega (arith, c.type_inv.records i)) a.from a.state.now
    (λ i. omega (arith, c.type_inv.state i)) c.requires.2 c.requires.1 c.loop-k.bits c.loop-k.k c.loop-k.invariant
    c.loop-k.auto.k-end c.loop-k-test.false
