use Rattle.std.proofs.Common.{ap, refl, sym, ◌∙◌, arith, length, not}
use Rattle.answer.specs.Refuse.{is_done}
use Rattle.answer.proofs.Results.{handed_on}
use Rattle.digest.specs.Refusals.{digesting}
use Rattle.digest.proofs.Cases.{digest_goes}
use Rattle.hash.proofs.Numbers.{by_sizes}
use Rattle.hash.proofs.digest.Goals as goal

pub returns-in_err-length-clause-value : goal.returns-in_err-length-clause-value
returns-in_err-length-clause-value g c =
    let l = g.met.U.Kind in
    let a = c.args in
    let e = by_sizes g.U.Kind.kind l.small l.large c.SMALL.ensures c.LARGE.ensures
    (λ m n. digesting m n a.size (length a.message.now) (length a.out.now)) c.digesting.ensures in
    handed_on _ c.from_residual.ensures ∙ sym c.in_err-length.was ∙ e

pub start-p-requires : goal.start-p-requires
start-p-requires g c =
    let l = g.met.U.Kind in
    let a = c.args in
    let e = by_sizes g.U.Kind.kind l.small l.large c.SMALL.ensures c.LARGE.ensures
    (λ m n. digesting m n a.size (length a.message.now) (length a.out.now)) c.digesting.ensures in
    let goes = digest_goes l.sized a.size a.message.now a.out.now e refl (ap (λ r. not (is_done r)) c.in_ok-length.was) in
    l.pipe_fits

pub steps-q-requires : goal.steps-q-requires
steps-q-requires g c =
    let l = g.met.U.Kind in
    let a = c.args in
    let e = by_sizes g.U.Kind.kind l.small l.large c.SMALL.ensures c.LARGE.ensures
    (λ m n. digesting m n a.size (length a.message.now) (length a.out.now)) c.digesting.ensures in
    let goes = digest_goes l.sized a.size a.message.now a.out.now e refl (ap (λ r. not (is_done r)) c.in_ok-length.was) in
    l.pipe_fits

pub close-r-requires : goal.close-r-requires
close-r-requires g c =
    let l = g.met.U.Kind in
    let a = c.args in
    let e = by_sizes g.U.Kind.kind l.small l.large c.SMALL.ensures c.LARGE.ensures
    (λ m n. digesting m n a.size (length a.message.now) (length a.out.now)) c.digesting.ensures in
    let goes = digest_goes l.sized a.size a.message.now a.out.now e refl (ap (λ r. not (is_done r)) c.in_ok-length.was) in
    (l.pipe_fits, omega (arith))

pub overflow_mul-message : goal.overflow_mul-message
overflow_mul-message g c =
    let l = g.met.U.Kind in
    let a = c.args in
    let e = by_sizes g.U.Kind.kind l.small l.large c.SMALL.ensures c.LARGE.ensures
    (λ m n. digesting m n a.size (length a.message.now) (length a.out.now)) c.digesting.ensures in
    let goes = digest_goes l.sized a.size a.message.now a.out.now e refl (ap (λ r. not (is_done r)) c.in_ok-length.was) in
    omega (arith, goes.fits.bits)

pub write-requires : goal.write-requires
write-requires g c =
    let l = g.met.U.Kind in
    let a = c.args in
    let e = by_sizes g.U.Kind.kind l.small l.large c.SMALL.ensures c.LARGE.ensures
    (λ m n. digesting m n a.size (length a.message.now) (length a.out.now)) c.digesting.ensures in
    let goes = digest_goes l.sized a.size a.message.now a.out.now e refl (ap (λ r. not (is_done r)) c.in_ok-length.was) in
    (l.pipe_fits, (omega (arith, goes.fits.vector, l.block_length), goes.fits.out))

pub returns-clause-out_after : goal.returns-clause-out_after
returns-clause-out_after g c =
    let l = g.met.U.Kind in
    let a = c.args in
    let e = by_sizes g.U.Kind.kind l.small l.large c.SMALL.ensures c.LARGE.ensures
    (λ m n. digesting m n a.size (length a.message.now) (length a.out.now)) c.digesting.ensures in
    let goes = digest_goes l.sized a.size a.message.now a.out.now e refl (ap (λ r. not (is_done r)) c.in_ok-length.was) in
    goes.written c.start-p.ensures (rw (← l.block_length, ← l.block_step) at c.steps-q.ensures) (rw (c.BYTES-block.ensures, ← l.block_length) at c.close-r.ensures)
    (rw (← l.pipe_bytes c.close-r.result) at c.write.ensures)
