use Rattle.std.proofs.Common.{◌≡◌, ◌+◌, drop}
use Rattle.dz_rank.specs.Rankings.{block_values}
use Rattle.dz_rank.specs.Standings.{standing_of}
use Rattle.dz_rank.proofs.placing.find_standing.Given as goal

abbrev pub invariant-loop-i : goal.invariant-loop-i
invariant-loop-i l =
    let rest = standing_of (block_values (drop l.i l.blocks)) l.dependent in
    standing_of (block_values l.blocks) l.dependent ≡ record { block = l.i + rest.block; kind = rest.kind; place = rest.place }
