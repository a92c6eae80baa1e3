use Rattle.std.proofs.Common.{◌*◌, rules, sym, subst}
use Rattle.dz_int.specs.Euclid.{AreParts, HasNoParts}
use Rattle.dz_int.specs.Fractions.{IsProduct}
use Rattle.dz_int.proofs.Reduced.{coprime_gcd, product_leaves_range, product_value}
use Rattle.dz_int.proofs.fractions.Frac.mul.Goals as goal

pub product_parts-requires-clause-first_reduced : goal.product_parts-requires-clause-first_reduced
product_parts-requires-clause-first_reduced c = coprime_gcd _ _ _ (search rules) c.self.invariant.reduced.coprime

pub product_parts-requires-clause-second_reduced : goal.product_parts-requires-clause-second_reduced
product_parts-requires-clause-second_reduced c = coprime_gcd _ _ _ (search rules) c.other.invariant.reduced.coprime

pub returns-in_err-absolute : goal.returns-in_err-absolute
returns-in_err-absolute c =
    let none : HasNoParts (c.unsigned_abs.result * c.unsigned_abs-2.result) (c.args.self.denominator * c.args.other.denominator) = search rules in
    subst (IsProduct c.args.self c.args.other) (sym c.from_residual.ensures) (product_leaves_range c.args.self c.args.other _ _ (search rules) (search rules) none)

pub returns : goal.returns
returns c =
    let parts : AreParts (c.unsigned_abs.result * c.unsigned_abs-2.result) (c.args.self.denominator * c.args.other.denominator) c.in_ok-absolute.absolute c.in_ok-absolute.denominator = search rules in
    (c.from_parts.ensures.fraction, product_value c.args.self c.args.other _ _ _ _ _ _ _ (search rules) (search rules) (search rules) (search rules) parts c.from_parts.ensures.value)
