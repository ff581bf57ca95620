use mathlib.Core.Path.{◌≡◌, ap, ◌∙◌}
use Prim.Native.Nat.{ℕ, ◌*◌}
use native.Mathlib.Omega.{arith}
use Rattle.sheet.specs.Effect.{vector_at}
use Rattle.sheet.proofs.Parts.{place_read}
use Rattle.effect.proofs.vectors.get.Goals as goal

pub returns : goal.returns
returns g c =
    let a = c.args in
    let w = g.U.Unsigned.width in
    let whole : 8 * c.BYTES.result ≡ w = omega (arith, c.BYTES.ensures, g.met.U.LentWord.bits_of_bytes) in
    c.vector_at.ensures ∙ ap (λ (n : ℕ). vector_at w a.vectors.now (a.i * n)) whole ∙ place_read w a.vectors.now a.i c.requires.1
