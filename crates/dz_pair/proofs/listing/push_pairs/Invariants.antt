use Rattle.std.proofs.Common.{◌≡◌, ◌+◌, ◌++◌, drop}
use Rattle.dz_pair.specs.Crossings.{crossings_from}
use Rattle.dz_pair.proofs.PairLists.{pairs_behind, pairs_here}
use Rattle.dz_pair.proofs.listing.push_pairs.Given as goal

abbrev pub invariant-loop-j : goal.invariant-loop-j
invariant-loop-j l =
    (l.found.items ++ pairs_here l.leaders l.i l.j) ++ pairs_behind l.leaders l.i ≡ l.initial.found.items ++ crossings_from (l.i + 1) (drop l.i l.leaders)
