use Rattle.std.proofs.Common.{refl, sym, ◌∙◌, arith, rules, length}
use Rattle.answer.proofs.Results.{went}
use Rattle.digest.specs.Refusals.{feeding}
use Rattle.digest.proofs.Cases.{feed_goes}
use Rattle.hash.proofs.Numbers.{by_sizes}
use Rattle.hash.proofs.feed.Goals as goal

pub absorb-t-requires : goal.absorb-t-requires
absorb-t-requires g c =
    let l = g.met.U.Kind in
    let s = c.args.bytes.now in
    let h = c.hash.inside in
    let e = by_sizes g.U.Kind.kind l.small l.large c.SMALL.ensures c.LARGE.ensures (λ m n. feeding m n h.size h.total (length s))
    c.feeding-answer.ensures in
    let goes = feed_goes l.sized (record { size = h.size; pipe = h.pipe; waiting = h.waiting; total = h.total }) s e refl
    (search rules ∙ c.requires ∙ sym l.block_length) (went _ c.is_err.ensures.value c.if-is_err.false) in
    (l.pipe_fits, (rw c.requires l.absorbed_fits, (c.requires, rw (c.requires, ← l.block_length) goes.waits.short)))

pub overflow_add-sum : goal.overflow_add-sum
overflow_add-sum g c =
    let l = g.met.U.Kind in
    let s = c.args.bytes.now in
    let h = c.hash.inside in
    let e = by_sizes g.U.Kind.kind l.small l.large c.SMALL.ensures c.LARGE.ensures (λ m n. feeding m n h.size h.total (length s))
    c.feeding-answer.ensures in
    let goes = feed_goes l.sized (record { size = h.size; pipe = h.pipe; waiting = h.waiting; total = h.total }) s e refl
    (search rules ∙ c.requires ∙ sym l.block_length) (went _ c.is_err.ensures.value c.if-is_err.false) in
    omega (arith, goes.total)

pub returns : goal.returns
returns g c =
    let l = g.met.U.Kind in
    let s = c.args.bytes.now in
    let h = c.hash.inside in
    let e = by_sizes g.U.Kind.kind l.small l.large c.SMALL.ensures c.LARGE.ensures (λ m n. feeding m n h.size h.total (length s))
    c.feeding-answer.ensures in
    let goes = feed_goes l.sized (record { size = h.size; pipe = h.pipe; waiting = h.waiting; total = h.total }) s e refl
    (search rules ∙ c.requires ∙ sym l.block_length) (went _ c.is_err.ensures.value c.if-is_err.false) in
    let t = c.absorb-t.ensures in
    rw (← c.hash.view_is) (e, goes.fed (rw (l.block_length, l.block_step, ← c.requires) t.0, rw (l.block_length, ← c.requires) t.1))
