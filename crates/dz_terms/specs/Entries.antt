-- What a book keeps of a polynomial.
use Rattle.dz_algebra.specs.Monomial.{Monomial}
use Rattle.dz_algebra.specs.Polynomial.{Polynomial}
use Rattle.dz_rank.specs.declared.symbols.Symbol.{Symbol}
use Rattle.dz_rank.specs.Rankings.{RankingValue}
use Rattle.dz_monomials.specs.Keeping.{IsTabled}

-- what an entry holds: the terms of a polynomial, the greatest monomial first, and its degree in each symbol that
-- occurs, the greatest symbol first
pub record EntryValue : Type 0 where
  pub terms : Polynomial Symbol
  pub degrees : Monomial Symbol

-- the terms of an entry may stand in a book, and the table is that of their degrees
abbrev pub IsEntry : RankingValue → EntryValue → Type 0
IsEntry r x = IsTabled r x.terms x.degrees

-- and so they are under some ranking
abbrev pub IsSomeEntry : EntryValue → Type 0
IsSomeEntry x = (r : RankingValue) × IsEntry r x
