use Rattle.dz_rank.specs.Rankings.{HasAllBelow}
use Rattle.dz_rank.proofs.placing.least_missing.Given as goal

abbrev pub invariant-loop-u : goal.invariant-loop-u
invariant-loop-u l = HasAllBelow l.u-counter l.dependents
