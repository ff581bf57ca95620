use mathlib.Core.Path.{◌≡◌, ap}
use Prim.Native.Nat.{ℕ, ◌*◌}
use native.Mathlib.Omega.{arith}
use borrow.Author.Rules.{rules}
use Rattle.quasigroup.proofs.Widths.{bytewise}
use Rattle.sheet.proofs.Parts.{place_written}
use Rattle.effect.proofs.vectors.put.Goals as goal

pub returns : goal.returns
returns g c =
    let a = c.args in
    let w = g.U.Unsigned.width in
    let whole : 8 * c.BYTES.result ≡ w = omega (arith, c.BYTES.ensures, g.met.U.LentWord.bits_of_bytes) in
    place_written w (bytewise w g.met.U.Width.known) g.U.LentWord.BYTES g.met.U.LentWord.bits_of_bytes a.vectors.now (λ i. search rules)
    c.requires.0 a.i c.requires.1 a.x (search rules) c.store_vector.ensures.fits _ (ap (λ (n : ℕ). a.i * n) whole) c.store_vector.ensures.out_after
