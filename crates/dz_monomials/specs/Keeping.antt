-- Terms that may stand in a book, and the table of their degrees.
use Rattle.std.specs.Prelude.{◌≡◌, ◌≤◌, All, map, unsigned_abs, None}
use Rattle.dz_algebra.specs.Amount.{greatest}
use Rattle.dz_algebra.specs.Monomial.{Monomial}
use Rattle.dz_algebra.specs.Polynomial.{Polynomial, IsPolynomial, PolynomialIn}
use Rattle.dz_algebra.specs.Size.{limit_of}
use Rattle.dz_rank.specs.declared.symbols.Symbol.{Symbol}
use Rattle.dz_rank.specs.Rankings.{RankingValue, ranking_cmp}
use Rattle.dz_rank.specs.Symbols.{BelongsTo}
use Rattle.dz_monomials.specs.Degrees.{degrees as degree_table}
use Rattle.dz_monomials.specs.Ranked.{symbols_under}

-- what is true of every polynomial in a book: it is canonical, its symbols belong to the signature, it passes no
-- limit of size, and its coefficients are in range
pub record IsKeepable (r : RankingValue) (p : Polynomial Symbol) : Type 0 where
  pub canonical : IsPolynomial (ranking_cmp r) p
  pub belongs : PolynomialIn (BelongsTo r.signature) p
  pub small : limit_of (symbols_under r) (map (λ t. t.0) p) ≡ None
  pub in_range : All (λ t. unsigned_abs t.1 ≤ greatest) p

-- the terms of a polynomial that may stand in a book, and the table of its degrees
pub record IsTabled (r : RankingValue) (terms : Polynomial Symbol) (table : Monomial Symbol) : Type 0 where
  pub keepable : IsKeepable r terms
  pub degrees_are : table ≡ degree_table (ranking_cmp r) terms
