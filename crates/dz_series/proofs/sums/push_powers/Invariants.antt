use Rattle.std.proofs.Common.{◌≡◌, ◌++◌, true, codes, drop}
use Rattle.dz_form.specs.Writing.{marked}
use Rattle.dz_series.specs.Series.{displacements}
use Rattle.dz_series.proofs.sums.push_powers.Given as goal

-- what is written, and the powers that are left
abbrev pub invariant-independents : goal.invariant-independents
invariant-independents l =
    l.into.items ++ marked (codes "*") l.first (displacements l.names l.i (drop l.i l.points) (drop l.i l.operator.counts))
    ≡ l.fn.into.items ++ marked (codes "*") true (displacements l.names 0 l.points l.operator.counts)
