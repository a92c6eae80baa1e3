use Rattle.std.proofs.Common.{◌≡◌, ◌+◌, ◌++◌, drop}
use Rattle.dz_pair.specs.Crossings.{crossings_from}
use Rattle.dz_pair.proofs.listing.pairs.Given as goal

abbrev pub invariant-loop-i : goal.invariant-loop-i
invariant-loop-i l =
    l.found.items ++ crossings_from (l.i + 1) (drop l.i l.leaders.items) ≡ crossings_from 1 l.leaders.items
