use Rattle.std.proofs.Common.{ap, ap₂, refl, sym, ◌∙◌, replicate}
use Rattle.answer.proofs.Results.{erred, went}
use Rattle.digest.specs.Refusals.{opening}
use Rattle.digest.specs.State.{Hash}
use Rattle.digest.proofs.Cases.{open_refused, open_accepted}
use Rattle.hash.proofs.Numbers.{by_sizes}
use Rattle.hash.proofs.open.Goals as goal

pub returns-then-is_err : goal.returns-then-is_err
returns-then-is_err g c =
    let l = g.met.U.Kind in
    let n = c.args.size in
    let e = by_sizes g.U.Kind.kind l.small l.large c.SMALL.ensures c.LARGE.ensures (λ s t. opening s t n) c.opening-answer.ensures in
    let both = open_refused l.sized n e refl (erred _ c.is_err.ensures.value c.if-is_err.true) in (
      both.0,
      ap₂ {C = Hash} (λ m z. record { size = 0; pipe = record { first = replicate 8 z; second = replicate 8 z }; waiting = replicate m 0; total = 0 })
          (c.requires ∙ sym l.block_length) c.from_u8-zeros.ensures
          ∙ both.1,
    )

pub returns : goal.returns
returns g c =
    let l = g.met.U.Kind in
    let n = c.args.size in
    let e = by_sizes g.U.Kind.kind l.small l.large c.SMALL.ensures c.LARGE.ensures (λ s t. opening s t n) c.opening-answer.ensures in
    let both = open_accepted l.sized n e refl (went _ c.is_err.ensures.value c.if-is_err.false) c.start.ensures in (
      both.0,
      ap {B = Hash} (λ m. record { size = n; pipe = c.start.result; waiting = replicate m 0; total = 0 }) (c.requires ∙ sym l.block_length) ∙ both.1,
    )
