-- Lists of values in the order of a ranking. No public clause cites this file.
use Rattle.std.specs.Prelude.{◌≡◌, true, not, List, ◌++◌, map, ℤ, Option}
use Rattle.std.specs.Option.{option_and_then}
use Rattle.std.specs.List.{Contains, filter, find}
use Rattle.std.specs.List.Sorted.{IsSorted}
use Rattle.dz_algebra.specs.Monomial.{Monomial}
use Rattle.dz_int.specs.Fractions.{Fraction}
use Rattle.dz_rank.specs.Rankings.{RankingValue, ranking_cmp}
use Rattle.dz_rank.specs.Symbols.{is_derivative}
use Rattle.dz_rank.specs.declared.symbols.Symbol.{Symbol}
use Rattle.dz_monomials.specs.Ranked.{symbols_under}
use Rattle.dz_monomials.specs.Lists.{AllOf}
use Rattle.dz_diff.specs.State.{State}
use Rattle.dz_parametric.specs.Orders.{IsRising}
use Rattle.dz_jet.specs.Fractions.{whole, sum_answer}
use Rattle.dz_jet.specs.Jets.{Values, independents_of, is_among, is_given, is_needed, term_value}

-- the symbols of a list
abbrev pub keys : Values → List Symbol
keys xs = map (λ p. p.0) xs

-- no value is less than the one before it, by its symbol
abbrev pub AreSorted : RankingValue → Values → Type 0
AreSorted r xs = IsSorted (λ p q. ranking_cmp r p.0 q.0) xs

-- no symbol has two values
abbrev pub HaveOneValue : Values → Type 0
HaveOneValue xs = (s : Symbol) (v w : Fraction) → Contains xs (s, v) → Contains xs (s, w) → v ≡ w

-- the independents in declared order, and derivatives in increasing order
pub record IsTable (r : RankingValue) (xs : Values) : Type 0 where
  pub derivatives : List Symbol
  pub keys_are : keys xs ≡ independents_of r.signature ++ derivatives
  pub rising : IsRising (ranking_cmp r) derivatives
  pub proper : AllOf (λ s. is_derivative s ≡ true) derivatives

-- a jet so far, and the derivatives whose values are to come, in increasing order
pub record IsBegun (r : RankingValue) (xs : Values) (rest : List Symbol) : Type 0 where
  pub derivatives : List Symbol
  pub keys_are : keys xs ≡ independents_of r.signature ++ derivatives
  pub rising : IsRising (ranking_cmp r) (derivatives ++ rest)
  pub proper : AllOf (λ s. is_derivative s ≡ true) (derivatives ++ rest)

-- the first symbol whose value is needed and not given
abbrev pub first_missing : RankingValue → State → Values → List Symbol → Option Symbol
first_missing r s known symbols = find (λ v. not (is_given (symbols_under r) known v)) (filter (is_needed (symbols_under r) s) symbols)

-- the first symbol whose value is given and not needed
abbrev pub first_not_free : RankingValue → State → Values → List Symbol → Option Symbol
first_not_free r s known symbols = find (λ v. not (is_among (symbols_under r) (filter (is_needed (symbols_under r) s) symbols) v)) (keys known)

-- x and the value of a term, where each product and the sum fit
abbrev pub with_term : (Symbol → Fraction) → Monomial Symbol × ℤ → Fraction → Option Fraction
with_term at t x = option_and_then (sum_answer x) (term_value at t.0 (whole t.1))
