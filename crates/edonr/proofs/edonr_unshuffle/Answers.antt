use mathlib.Core.Path.{ap, subst, ◌∙◌}
use Prim.Native.Nat.{◌^◌}
use Rattle.answer.specs.Number.{marked_number}
use Rattle.answer.specs.Injective.{Fits}
use Rattle.edonr.proofs.edonr_unshuffle.Goals as goal

pub returns : goal.returns
returns c =
    record {
      value = c.marked_number.ensures ∙ ap marked_number c.unshuffle.ensures.value;
      out_after = c.unshuffle.ensures.out_after;
      fits = subst (Fits (2 ^ 63)) c.unshuffle.ensures.value c.unshuffle.ensures.fits;
    }
