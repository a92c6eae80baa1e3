-- The worked examples, by computation.
use Rattle.std.proofs.Common.{refl}
use Rattle.dz_parametric.specs.Cones.{cones_of_exponents}
use Rattle.dz_parametric.specs.Examples.{ConeExamples}

pub cone_examples : ConeExamples
unfolding cones_of_exponents
cone_examples = record { heat = refl; stairs = refl; all_free = refl; none_free = refl; constant_free = refl; constant_led = refl }
