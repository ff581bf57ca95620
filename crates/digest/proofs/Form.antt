-- By computation.
use mathlib.Core.Path.{refl}
use Rattle.digest.specs.Form.{ZerosNotInForm}

pub zeros_not_in_form : ZerosNotInForm
zeros_not_in_form = record { narrow_zeros = refl; wide_zeros = refl }
