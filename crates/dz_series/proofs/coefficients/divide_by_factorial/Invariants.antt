use Rattle.std.proofs.Common.{◌≡◌, Some}
use Rattle.dz_series.specs.Series.{by_factorial}
use Rattle.dz_series.proofs.coefficients.divide_by_factorial.Given as goal

-- the quotient so far
abbrev pub invariant-loop-i : goal.invariant-loop-i
invariant-loop-i l = by_factorial l.i l.fn.x ≡ Some l.quotient
