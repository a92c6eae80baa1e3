use Rattle.std.proofs.Common.{subst, arith}
use Rattle.std.proofs.lemmas.Int.{ints}
use Rattle.dz_int.specs.Fractions.{IsFraction}
use Rattle.dz_int.proofs.Reduced.{negated}
use Rattle.dz_int.proofs.fractions.Frac.negative.Goals as goal

pub invariant_of-result : goal.invariant_of-result
invariant_of-result c = subst (λ n. IsFraction (record { numerator = n; denominator = c.self.inside.denominator })) (omega (arith, ints)) (negated (record { numerator = c.self.inside.numerator; denominator = c.self.inside.denominator }) c.self.invariant)
