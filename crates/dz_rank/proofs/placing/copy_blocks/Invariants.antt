use Rattle.std.proofs.Common.{◌≡◌, ◌++◌, drop}
use Rattle.dz_rank.specs.Rankings.{block_values}
use Rattle.dz_rank.proofs.placing.copy_blocks.Given as goal

abbrev pub invariant-loop-i : goal.invariant-loop-i
invariant-loop-i l = block_values l.copy.items ++ block_values (drop l.i l.blocks) ≡ block_values l.blocks
