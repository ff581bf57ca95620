use mathlib.Core.Path.{refl}
use borrow.Author.Rules.{rules}
use lib.Dec.{lit≤}
use Rattle.quasigroup.proofs.Widths.{other_width}
use Rattle.shuffle.specs.Shuffle.{shuffled_record}
use Rattle.record.proofs.Moved.{tiled_32, tiled_64}
use Rattle.shuffler.proofs.Loop.{at_width, asked_at}
use Rattle.shuffler.proofs.shuffle_record.Goals as goal

pub shuffle-requires : goal.shuffle-requires
shuffle-requires c =
    record {
      tiled = (tiled_32, lit≤ tt, refl, refl);
      s_len = asked_at c.args.width 32 c.if-width-eq32.true c.requires.1 c.requires.2;
    }

pub returns-then-width-eq32 : goal.returns-then-width-eq32
returns-then-width-eq32 c =
    let a = c.args in
    at_width shuffled_record a.width 32 c.if-width-eq32.true a.s.now a.out.now (search rules)

pub shuffle-requires-2 : goal.shuffle-requires-2
shuffle-requires-2 c =
    record {
      tiled = (tiled_64, lit≤ tt, refl, refl);
      s_len = asked_at c.args.width 64 (other_width c.args.width c.requires.0 c.if-width-eq32.false) c.requires.1 c.requires.2;
    }

pub returns : goal.returns
returns c =
    let a = c.args in
    at_width shuffled_record a.width 64 (other_width a.width c.requires.0 c.if-width-eq32.false) a.s.now a.out.now (search rules)
