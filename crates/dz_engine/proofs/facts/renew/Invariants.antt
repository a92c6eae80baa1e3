use Rattle.std.proofs.Common.{◌≡◌, ◌≤◌, length, take}
use Rattle.dz_engine.specs.Facts.{AreKnown, names_of}
use Rattle.dz_engine.proofs.facts.renew.Given as goal

abbrev pub invariant-places : goal.invariant-places
invariant-places l = record {
  known : AreKnown l.book l.facts.items;
  inside : l.k ≤ length l.facts.items;
  names : take l.k (names_of l.facts.items) ≡ take l.k l.state.equations;
}
