use Rattle.std.proofs.Common.{rules}
use Rattle.dz_int.specs.Euclid.{AreSumParts}
use Rattle.dz_int.proofs.Sums.{sum_value}
use Rattle.dz_int.proofs.fractions.Frac.add.Goals as goal

pub returns : goal.returns
returns c =
    let parts : AreSumParts c.args.self c.args.other c.in_ok-numerator.numerator c.in_ok-numerator.denominator = search rules in
    (parts.fits, c.reduced.ensures.fraction, sum_value c.args.self c.args.other _ c.in_ok-numerator.numerator _ _ _ parts (search rules) (search rules) c.reduced.ensures.value)
