use Rattle.std.proofs.Common.{rules}
use Rattle.invertible.specs.RoundTrip.{Backward}
use Rattle.pipe.proofs.Call.{by_loaded}
use Rattle.block.proofs.step_back.Goals as goal

-- the promise of the function called is searched for and not named, so that another function is refused for what it promises
pub returns : goal.returns
returns g c =
    let a = c.args in
    by_loaded g.U.Width.tables Backward a.p a.m.now c.load-b.ensures (search rules)
