-- At least one byte came in each turn, and what was filled is what the source gave.
use Rattle.std.proofs.Common.{◌≤◌, length, take}
use Rattle.std.specs.Io.KnownBytes.{Consumes}
use Rattle.input.proofs.read_full.Given as goal

abbrev pub invariant-loop : goal.invariant-loop
invariant-loop g l = record {
  within : l.n ≤ length l.out;
  counted : l.counter ≤ l.n;
  given : Consumes (g.R.Read.remaining l.initial.source) (g.R.Read.remaining l.source) (take l.n l.out);
}
