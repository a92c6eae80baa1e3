use Rattle.dz_diff.proofs.ProperDerivatives.{proper_derivative_linear}
use Rattle.dz_diff.proofs.laws.proper_derivatives_are_linear.Goals as goal

pub returns : goal.returns
returns c = proper_derivative_linear
