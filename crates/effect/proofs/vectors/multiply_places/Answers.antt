use Rattle.quasigroup.specs.Product.{product}
use Rattle.quasigroup.proofs.Quasigroup.{from_halves}
use Rattle.sheet.specs.Run.{vectors_in}
use Rattle.sheet.proofs.Parts.{changed_by}
use Rattle.effect.proofs.vectors.multiply_places.Goals as goal

pub returns : goal.returns
returns g c =
    let a = c.args in
    changed_by (vectors_in g.U.Unsigned.width a.vectors.now) a.d (product g.U.Width.tables) c.put.ensures
    (from_halves g.U.Width.tables _ _ c.left_half.ensures c.right_half.ensures c.joined.ensures)
    c.get-x.ensures c.get-y.ensures
