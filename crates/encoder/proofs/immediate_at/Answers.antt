use mathlib.Core.Path.{◌≡◌, ap}
use Prim.Native.Nat.{ℕ, ◌+◌, ◌-◌}
use native.Mathlib.Omega.{arith}
use lib.ListN.{take, drop}
use Rattle.encoder.proofs.immediate_at.Goals as goal

pub returns : goal.returns
returns c =
    let a = c.args in
    let n : a.k + a.width - a.k ≡ a.width = omega arith in
    ap (λ (m : ℕ). take m (drop a.k a.sheet.now)) n
