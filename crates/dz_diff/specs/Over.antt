-- Polynomials over a ranking.
use Rattle.dz_algebra.specs.Polynomial.{Polynomial, IsPolynomial, PolynomialIn}
use Rattle.dz_rank.specs.Rankings.{RankingValue, ranking_cmp}
use Rattle.dz_rank.specs.Symbols.{BelongsTo}
use Rattle.dz_rank.specs.declared.symbols.Symbol.{Symbol}
use Rattle.dz_monomials.specs.Lists.{AllOf}
use Rattle.dz_diff.specs.Tests.{Polynomials}

-- a polynomial is canonical, and its symbols belong to the signature
pub record IsOver (r : RankingValue) (p : Polynomial Symbol) : Type 0 where
  pub canonical : IsPolynomial (ranking_cmp r) p
  pub belongs : PolynomialIn (BelongsTo r.signature) p

-- and so are all polynomials of two lists
pub record AreOver (r : RankingValue) (equations inequations : Polynomials) : Type 0 where
  pub equations_over : AllOf (IsOver r) equations
  pub inequations_over : AllOf (IsOver r) inequations
