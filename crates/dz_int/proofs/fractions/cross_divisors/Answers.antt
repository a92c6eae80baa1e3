use Rattle.dz_int.proofs.Cross.{cross_reduced}
use Rattle.dz_int.proofs.fractions.cross_divisors.Goals as goal

pub returns : goal.returns
returns c = cross_reduced c.args.a c.args.b c.args.c c.args.d _ _ c.requires.b_positive c.requires.d_positive c.requires.first_reduced c.requires.second_reduced c.divisor.ensures c.divisor-2.ensures
