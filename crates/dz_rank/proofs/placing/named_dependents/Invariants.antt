use Rattle.std.proofs.Common.{◌≡◌, ◌++◌, drop}
use Rattle.dz_rank.specs.Rankings.{block_values, dependents_of}
use Rattle.dz_rank.proofs.placing.named_dependents.Given as goal

abbrev pub invariant-loop-i : goal.invariant-loop-i
invariant-loop-i l = l.named.items ++ dependents_of (block_values (drop l.i l.blocks)) ≡ dependents_of (block_values l.blocks)
