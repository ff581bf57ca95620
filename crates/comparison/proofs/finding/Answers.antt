use Prim.Native.Nat.{◌<◌}
use native.Mathlib.Omega.{arith}
use borrow.Author.Rules.{rules}
use Rattle.comparison.proofs.Search.{width_most, word_within, there_is, told}
use Rattle.comparison.proofs.finding.Goals as goal

pub overflow_mul-at : goal.overflow_mul-at
overflow_mul-at c =
    let a = c.args in
    let i : c.agreeing-i.result < 64 =
    omega (arith, c.agreeing-i.ensures, there_is a.width a.records.now a.from a.state.now c.requires.state_value) in
    omega (arith, width_most a.width c.requires.width_value.0, word_within a.width c.requires.width_value.0 c.agreeing-i.result i)

pub overflow_add-from : goal.overflow_add-from
overflow_add-from c =
    let a = c.args in
    let i : c.agreeing-i.result < 64 =
    omega (arith, c.agreeing-i.ensures, there_is a.width a.records.now a.from a.state.now c.requires.state_value) in
    search (rules, c.requires.width_value.2, word_within a.width c.requires.width_value.0 c.agreeing-i.result i)

pub word_at-found-requires : goal.word_at-found-requires
word_at-found-requires c =
    let a = c.args in
    let i : c.agreeing-i.result < 64 =
    omega (arith, c.agreeing-i.ensures, there_is a.width a.records.now a.from a.state.now c.requires.state_value) in
    (c.requires.width_value.0, omega (arith, c.requires.width_value.2, word_within a.width c.requires.width_value.0 c.agreeing-i.result i))

pub word_at-expected-requires : goal.word_at-expected-requires
word_at-expected-requires c =
    let a = c.args in
    let i : c.agreeing-i.result < 64 =
    omega (arith, c.agreeing-i.ensures, there_is a.width a.records.now a.from a.state.now c.requires.state_value) in
    (c.requires.width_value.0, omega (arith, c.requires.width_value.1, word_within a.width c.requires.width_value.0 c.agreeing-i.result i))

pub returns : goal.returns
returns c =
    let a = c.args in
    let i : c.agreeing-i.result < 64 =
    omega (arith, c.agreeing-i.ensures, there_is a.width a.records.now a.from a.state.now c.requires.state_value) in
    told a.width a.records.now a.from a.state.now a.offset c.agreeing-i.result c.agreeing-i.ensures i
    c.word_at-found.ensures c.word_at-expected.ensures
