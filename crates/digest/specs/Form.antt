-- Document 01: beside a refused opening stands a state of zeros, size 0, which is not in form. The statement, for both kinds.
use Rattle.std.specs.Prelude.{◌≡◌, false}
use Rattle.digest.specs.Kind.{narrow_kind, wide_kind}
use Rattle.digest.specs.State.{formed, zeros}

pub record ZerosNotInForm : Type 0 where
  pub narrow_zeros : formed narrow_kind (zeros narrow_kind) ≡ false
  pub wide_zeros : formed wide_kind (zeros wide_kind) ≡ false
