use Rattle.std.proofs.Common.{rules}
use Rattle.dz_int.proofs.Reduced.{is_fraction}
use Rattle.dz_int.proofs.fractions.Frac.from_parts.Goals as goal

pub invariant_of-result : goal.invariant_of-result
invariant_of-result c = is_fraction _ c.args.negative c.args.absolute c.args.denominator (search rules) c.requires.numerator_in_range c.requires.positive c.requires.denominator_in_range c.requires.coprime

pub returns-clause-fraction : goal.returns-clause-fraction
returns-clause-fraction c = is_fraction _ c.args.negative c.args.absolute c.args.denominator (search rules) c.requires.numerator_in_range c.requires.positive c.requires.denominator_in_range c.requires.coprime
