use Rattle.std.proofs.Common.{◌≡◌}
use Rattle.dz_int.specs.Fractions.{IsReduced}
use Rattle.dz_jet.specs.Jets.{multiplied}
use Rattle.dz_jet.proofs.folds.multiply_often.Given as goal

abbrev pub invariant-loop-left : goal.invariant-loop-left
invariant-loop-left l = IsReduced l.product × (multiplied l.left l.v l.product ≡ multiplied l.fn.k l.fn.v l.fn.x)

abbrev pub decreases-loop-left : goal.decreases-loop-left
decreases-loop-left l = l.left
