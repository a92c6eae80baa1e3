use Rattle.std.proofs.Common.{◌≡◌, drop}
use Rattle.std.specs.Prelude.{max}
use Rattle.dz_parametric.specs.Cones.{greatest_first}
use Rattle.dz_parametric.specs.Dividing.{tails}
use Rattle.dz_parametric.proofs.dividing.greatest.Given as goal

abbrev pub invariant-loop-operator : goal.invariant-loop-operator
invariant-loop-operator l = max l.most (greatest_first (tails l.i (drop l.operator-index l.operators))) ≡ greatest_first (tails l.fn.i l.fn.operators)
