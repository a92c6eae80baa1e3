use Rattle.std.proofs.Common.{◌≡◌, ◌+◌, drop}
use Rattle.dz_rank.specs.Rankings.{stands_in, place_of}
use Rattle.dz_rank.proofs.placing.place_in.Given as goal

abbrev pub invariant-loop-i : goal.invariant-loop-i
invariant-loop-i l =
    (stands_in l.dependent l.dependents ≡ stands_in l.dependent (drop l.i l.dependents))
    × (place_of l.dependent l.dependents ≡ l.i + place_of l.dependent (drop l.i l.dependents))
