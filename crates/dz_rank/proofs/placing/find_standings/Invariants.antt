use Rattle.std.proofs.Common.{◌≡◌, map}
use Rattle.std.specs.List.{range_with_len}
use Rattle.dz_rank.specs.Rankings.{block_values}
use Rattle.dz_rank.specs.Standings.{standing_of}
use Rattle.dz_rank.proofs.placing.find_standings.Given as goal

abbrev pub invariant-loop-u : goal.invariant-loop-u
invariant-loop-u l = l.table.items ≡ map (standing_of (block_values l.blocks)) (range_with_len 0 l.u)
