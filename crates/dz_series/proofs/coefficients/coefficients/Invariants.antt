use Rattle.std.proofs.Common.{◌≡◌, Some, map, take}
use Rattle.dz_series.specs.Series.{coefficient_answer}
use Rattle.dz_series.proofs.coefficients.coefficients.Given as goal

-- the coefficients so far
abbrev pub invariant-loop-k : goal.invariant-loop-k
invariant-loop-k l = map coefficient_answer (take l.k l.values) ≡ map Some l.made.items
