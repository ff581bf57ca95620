use Rattle.std.proofs.Common.{◌∙◌, rules}
use Rattle.tables.specs.Places.{unxor_places}
use Rattle.halves.proofs.Places.{eight_unrotated, unfilled}
use Rattle.division.proofs.left_unrotated.Goals as goal

pub returns : goal.returns
returns g c =
    let t = g.U.Width.tables in
    let z = c.args.z in
    eight_unrotated t.bits t.left_constant t.left_amounts unxor_places z (search rules)
    c.left_amounts-r.ensures.value c.left_constant-k.ensures c.from_u8-zero.ensures
    c.unrotated.ensures
    c.unrotated-2.ensures
    c.unrotated-3.ensures
    c.unrotated-4.ensures
    c.unrotated-5.ensures
    c.unrotated-6.ensures
    c.unrotated-7.ensures
    c.unrotated-8.ensures
    ∙ unfilled t.bits t.left_constant t.left_amounts z

pub unrotated-requires-5 : goal.unrotated-requires-5
unrotated-requires-5 g c = (search rules, (search rules, c.left_amounts-r.ensures.below 4))

pub unrotated-requires-6 : goal.unrotated-requires-6
unrotated-requires-6 g c = (search rules, (search rules, c.left_amounts-r.ensures.below 5))

pub unrotated-requires-7 : goal.unrotated-requires-7
unrotated-requires-7 g c = (search rules, (search rules, c.left_amounts-r.ensures.below 6))

pub unrotated-requires-8 : goal.unrotated-requires-8
unrotated-requires-8 g c = (search rules, (search rules, c.left_amounts-r.ensures.below 7))
