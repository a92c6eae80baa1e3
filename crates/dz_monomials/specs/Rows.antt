-- What the rows of a derivation contribute, one for each symbol. No public clause cites this file.
use Rattle.std.specs.Prelude.{◌≡◌, ⊤, ◌≤◌, ℕ, Bool, false, nat_lt, List, [], ◌∷◌, Option, Some, None}
use Rattle.std.specs.declared.cmp.Ordering.{Ordering}
use Rattle.std.specs.declared.cmp.Ordering.TheVariants.{Greater}
use Rattle.std.specs.Ordering.{match_ordering}
use Rattle.dz_algebra.specs.Derivation.{Rate, constant, unit, symbol, derivative_contributions}
use Rattle.dz_algebra.specs.Monomial.{Monomial, with_power}
use Rattle.dz_algebra.specs.Order.{IsFalling}
use Rattle.dz_algebra.specs.Polynomial.{Polynomial, Contributions}
use Rattle.dz_rank.specs.Rankings.{RankingValue, ranking_cmp}
use Rattle.dz_rank.specs.Symbols.{BelongsTo, total_order}
use Rattle.dz_rank.specs.declared.symbols.Symbol.{Symbol}
use Rattle.dz_monomials.specs.Lists.{AllOf}
use Rattle.dz_monomials.specs.declared.rates.Rate.{Rate as SymbolRate}
use Rattle.dz_monomials.specs.declared.rates.Rate.TheVariants.{One, Next}

-- a rate at one symbol, zero at every other
abbrev pub only : {S : Type 0} → (S → S → Ordering) → S → Rate S → S → Rate S
only cmp s x u = match_ordering (cmp u s) constant x constant

-- what a rate of the code means
abbrev pub meant : SymbolRate → Rate Symbol
meant One = unit
meant (Next t) = symbol t

-- what a rate that may be missing means
abbrev pub meant_if : Option SymbolRate → Rate Symbol
meant_if None = constant
meant_if (Some x) = meant x

-- the rate that a list gives to a symbol, zero where it has none
abbrev pub rate_in : (Symbol → Symbol → Ordering) → List (Symbol × SymbolRate) → Symbol → Rate Symbol
rate_in cmp [] u = constant
rate_in cmp (q ∷ qs) u = match_ordering (cmp u q.0) (rate_in cmp qs u) (meant q.1) (rate_in cmp qs u)

-- the row of a symbol: what the terms that have it contribute
abbrev pub row : (Symbol → Symbol → Ordering) → Symbol → SymbolRate → Polynomial Symbol → Contributions Symbol
row cmp s x p = derivative_contributions cmp (only cmp s (meant x)) p

-- the rows of a list of rates
abbrev pub rows : (Symbol → Symbol → Ordering) → List (Symbol × SymbolRate) → Polynomial Symbol → Contributions Symbol
rows cmp qs p = derivative_contributions cmp (rate_in cmp qs) p

-- a monomial times a rate
abbrev pub times_meant : (Symbol → Symbol → Ordering) → SymbolRate → Monomial Symbol → Monomial Symbol
times_meant cmp One m = m
times_meant cmp (Next t) m = with_power cmp t 1 m

-- the first power is one of the symbol
abbrev pub Begins : Symbol → Monomial Symbol → Type 0
Begins s [] = ⊥
Begins s (p ∷ m) = p.0 ≡ s

-- the symbol that a rate makes is greater than the one that it is made of
abbrev pub Rises : (Symbol → Symbol → Ordering) → Symbol → SymbolRate → Type 0
Rises cmp s One = ⊤
Rises cmp s (Next t) = cmp t s ≡ Greater

-- the symbol that a rate makes belongs to the signature, and its total order passes no limit
abbrev pub Stays : RankingValue → SymbolRate → Type 0
Stays r One = ⊤
Stays r (Next t) = BelongsTo r.signature t × (total_order t ≤ 60)

-- rates of falling symbols, each of which rises and stays
pub record AreRates (r : RankingValue) (qs : List (Symbol × SymbolRate)) : Type 0 where
  pub falls : IsFalling (ranking_cmp r) qs
  pub rise : AllOf (λ q. Rises (ranking_cmp r) q.0 q.1) qs
  pub stay : AllOf (λ q. Stays r q.1) qs

-- the symbol that a rate makes has a total order above 60
abbrev pub is_high_rate : {S : Type 0} → (S → ℕ) → Rate S → Bool
is_high_rate order constant = false
is_high_rate order unit = false
is_high_rate order (symbol t) = nat_lt 60 (order t)

-- a list of rates with one before, where that is not zero
abbrev pub with_rate : Symbol → Rate Symbol → List (Symbol × SymbolRate) → List (Symbol × SymbolRate)
with_rate s constant qs = qs
with_rate s unit qs = (s, One) ∷ qs
with_rate s (symbol t) qs = (s, Next t) ∷ qs

-- the rates of the symbols of a monomial that are not zero
abbrev pub rates_of : (Symbol → Rate Symbol) → Monomial Symbol → List (Symbol × SymbolRate)
rates_of rate [] = []
rates_of rate (p ∷ m) = with_rate p.0 (rate p.0) (rates_of rate m)
