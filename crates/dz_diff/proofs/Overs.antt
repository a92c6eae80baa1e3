-- Polynomials over a ranking are canonical, in the signature, and their operators have four exponents.
use Rattle.std.proofs.Common.{◌∷◌, []}
use Rattle.dz_algebra.specs.Monomial.{Monomial, MonomialIn}
use Rattle.dz_algebra.specs.Polynomial.{Polynomial, PolynomialIn}
use Rattle.dz_rank.specs.Rankings.{RankingValue}
use Rattle.dz_rank.specs.Symbols.{BelongsTo}
use Rattle.dz_rank.specs.declared.symbols.Symbol.{Symbol}
use Rattle.dz_rank.specs.declared.symbols.Symbol.TheVariants.{Independent, Derivative}
use Rattle.dz_monomials.specs.Lists.{AllOf}
use Rattle.dz_diff.specs.Over.{IsOver}
use Rattle.dz_diff.specs.Tests.{Polynomials}
use Rattle.dz_diff.proofs.Goodness.{Good, InRange}
use Rattle.dz_diff.proofs.LeaderDerivations.{IsRegular}

module _ (P Q : Symbol → Type 0) (f : (s : Symbol) → P s → Q s) where
  monomial_in : (n : Monomial Symbol) → MonomialIn P n → MonomialIn Q n
  monomial_in [] h = tt
  monomial_in (p ∷ n) h = (f p.0 h.0, monomial_in n h.1)

  -- what follows for each symbol follows for all symbols of a polynomial
  pub polynomial_in : (p : Polynomial Symbol) → PolynomialIn P p → PolynomialIn Q p
  polynomial_in [] h = tt
  polynomial_in (t ∷ p) h = (monomial_in t.0 h.0, polynomial_in p h.1)

module _ (r : RankingValue) where
  symbol_in : (s : Symbol) → BelongsTo r.signature s → InRange r s
  symbol_in (Independent j) h = h
  symbol_in (Derivative u t) h = tt

  symbol_regular : (s : Symbol) → BelongsTo r.signature s → IsRegular 4 s
  symbol_regular (Independent j) h = tt
  symbol_regular (Derivative u t) h = (h.1).size

  -- it is canonical, with independents of the signature alone
  pub good_over : (p : Polynomial Symbol) → IsOver r p → Good r p
  good_over p h = (h.canonical, polynomial_in (BelongsTo r.signature) (InRange r) symbol_in p h.belongs)

  -- its operators have four exponents
  pub regular_over : (p : Polynomial Symbol) → IsOver r p → PolynomialIn (IsRegular 4) p
  regular_over p h = polynomial_in (BelongsTo r.signature) (IsRegular 4) symbol_regular p h.belongs

  -- all polynomials of a list
  pub all_good : (ps : Polynomials) → AllOf (IsOver r) ps → AllOf (Good r) ps
  all_good [] h = tt
  all_good (p ∷ ps) h = (good_over p h.0, all_good ps h.1)
