-- The polynomial of an equation that is made from a seed.
use Rattle.std.specs.Prelude.{◌<◌, ◌≤◌, sum, unsigned_abs}
use Rattle.std.specs.declared.cmp.Ordering.{Ordering}
use Rattle.dz_algebra.specs.Amount.{greatest}
use Rattle.dz_algebra.specs.Polynomial.{Polynomial, polynomial_difference, polynomial_product, symbol_polynomial}
use Rattle.dz_rank.specs.declared.rankings.Signature.{Signature}
use Rattle.dz_rank.specs.declared.symbols.Symbol.{Symbol}
use Rattle.dz_rank.specs.declared.symbols.Symbol.TheVariants.{Derivative}
use Rattle.dz_rank.specs.Symbols.{BelongsTo, identity}
use Rattle.dz_sample.specs.declared.equations.SampleEquation.{SampleEquation}
use Rattle.dz_monomials.specs.Terms.{constant_polynomial}

-- the derivative that an equation fixes
abbrev pub derivative_of : SampleEquation → Symbol
derivative_of e = Derivative e.dependent e.operator

-- the dependent of which it is a derivative
abbrev pub dependent_of : SampleEquation → Symbol
dependent_of e = Derivative e.dependent identity

-- the derivative less so many times the dependent
abbrev pub equation_polynomial : (Symbol → Symbol → Ordering) → SampleEquation → Polynomial Symbol
equation_polynomial cmp e = polynomial_difference cmp (symbol_polynomial (derivative_of e))
    (polynomial_product cmp (constant_polynomial e.coefficient) (symbol_polynomial (dependent_of e)))

-- the derivative is a proper one of the signature, and neither its order nor the coefficient is too great
pub record IsEquationOf (g : Signature) (e : SampleEquation) : Type 0 where
  pub belongs : BelongsTo g (derivative_of e)
  pub proper : 0 < sum e.operator.counts
  pub small : sum e.operator.counts ≤ 60
  pub in_range : unsigned_abs e.coefficient ≤ greatest
