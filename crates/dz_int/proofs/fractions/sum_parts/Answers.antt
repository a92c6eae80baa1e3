use Rattle.std.proofs.Common.{rules}
use Rattle.dz_int.proofs.Sums.{are_sum_parts}
use Rattle.dz_int.proofs.fractions.sum_parts.Goals as goal

pub returns : goal.returns
returns c = are_sum_parts c.args.a c.args.c _ c.args.b c.args.d c.divisor-common.result _ c.requires.b_positive c.requires.d_positive c.divisor-common.ensures (search rules) (search rules) (search rules) (search rules)
