use Rattle.std.proofs.Common.{◌≡◌, drop}
use Rattle.dz_parametric.specs.Cones.{has_identity}
use Rattle.dz_parametric.specs.Dividing.{tails}
use Rattle.dz_parametric.proofs.dividing.has_identity_from.Given as goal

abbrev pub invariant-loop-operator : goal.invariant-loop-operator
invariant-loop-operator l = has_identity (tails l.i (drop l.operator-index l.operators)) ≡ has_identity (tails l.fn.i l.fn.operators)
