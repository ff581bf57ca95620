use mathlib.Core.Path.{◌≡◌, ap, ◌∙◌}
use Prim.Native.Nat.{ℕ}
use native.Mathlib.Omega.{arith}
use borrow.Author.Rules.{rules}
use lib.ListN.{length, replicate}
use Rattle.hmac.specs.Hmac.{xored}
use Rattle.hmac.proofs.Padded.{none_padded, one_padded, all_padded}
use Rattle.hmac_key.proofs.padded.Goals as goal

pub loop-byte-init : goal.loop-byte-init
loop-byte-init c = none_padded c.args.pad c.args.k

pub loop-byte-preserved : goal.loop-byte-preserved
loop-byte-preserved c =
    let l : length c.args.k ≡ 128 = search rules in
    one_padded c.args.pad c.loop-byte.invariant (omega (arith, l, c.loop-byte-test.true))

pub returns : goal.returns
returns c =
    let a = c.args in
    let l : length a.k ≡ 128 = search rules in
    all_padded a.pad c.loop-byte.invariant (omega (arith, l, c.loop-byte-test.false)) ∙ ap (λ (n : ℕ). xored a.k (replicate n a.pad)) l
