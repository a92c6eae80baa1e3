-- The worked examples, by computation.
use Rattle.std.proofs.Common.{refl}
use Rattle.dz_algebra.specs.Polynomial.{polynomial_sum, polynomial_difference, polynomial_product}
use Rattle.dz_algebra.specs.Derivation.{polynomial_derivative}
use Rattle.dz_algebra.specs.Norm.{norm, gcd}
use Rattle.dz_algebra.specs.Size.{support, fits, refusal, operation}
use Rattle.dz_algebra.specs.Examples.{DerivationExamples, OperationExamples}

-- derivatives, parts and norms
pub derivation_examples : DerivationExamples
unfolding polynomial_derivative norm gcd
derivation_examples = record {
  conic_by_x = refl;
  mixed_by_x = refl;
  mixed_by_y = refl;
  parts_of_conic = (refl, refl, refl);
  norm_of_line = refl;
}

-- contributions, supports and answers
pub operation_examples : OperationExamples
unfolding polynomial_sum polynomial_difference polynomial_product support fits refusal operation
operation_examples = record {
  cancelling = (refl, refl);
  kept = refl;
  steep_is_large = (refl, refl);
  sum_is_wide = (refl, refl);
  large_first = refl;
  order_limit = (refl, refl);
  exponent_limit = refl;
}
