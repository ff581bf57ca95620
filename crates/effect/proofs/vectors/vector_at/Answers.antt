use mathlib.Core.Path.{◌≡◌, ap, ◌∙◌}
use Prim.Native.Nat.{ℕ, ◌/◌}
use native.Mathlib.Omega.{arith}
use Rattle.memory.specs.Bytes.{words_at}
use Rattle.memory.proofs.Parts.{words_part}
use Rattle.effect.proofs.vectors.vector_at.Goals as goal

pub returns : goal.returns
returns g c =
    let a = c.args in
    let k = g.U.LentWord.BYTES in
    let bytes : k ≡ g.U.Unsigned.width / 8 = omega (arith, g.met.U.LentWord.bits_of_bytes) in
    c.load_vector.ensures.value ∙ words_part k 8 a.s.now a.at ∙ ap (λ (n : ℕ). words_at n 8 a.s.now a.at) bytes
