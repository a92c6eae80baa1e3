use Rattle.std.proofs.Common.{sym, subst}
use Rattle.std.specs.Int.{IsGcd}
use Rattle.dz_algebra.proofs.Divisors.{gcd_is}
use Rattle.dz_int.proofs.divisors.common_divisor.Goals as goal

pub returns : goal.returns
returns c = subst (IsGcd c.args.a c.args.b) (sym c.divisor.ensures) (gcd_is c.args.a c.args.b)
