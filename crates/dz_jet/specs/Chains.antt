-- The derivatives of the members of a chain, by their leaders.
use Rattle.std.specs.Prelude.{◌≡◌, ℕ, Some}
use Rattle.dz_algebra.specs.Polynomial.{Polynomial}
use Rattle.dz_algebra.specs.Parts.{leader}
use Rattle.dz_rank.specs.Rankings.{RankingValue}
use Rattle.dz_rank.specs.Symbols.{IsOperatorOf, derivative_by}
use Rattle.dz_rank.specs.declared.symbols.Operator.{Operator}
use Rattle.dz_rank.specs.declared.symbols.Symbol.{Symbol}
use Rattle.dz_monomials.specs.Ranked.{symbols_under}
use Rattle.dz_diff.specs.State.{State, at_place}
use Rattle.dz_jet.specs.Derivatives.{derivative_of}

-- an equation of a state, and an operator that takes its leader to w
pub record Reaching (r : RankingValue) (s : State) (w : Symbol) : Type 0 where
  pub place : ℕ
  pub equation : Polynomial Symbol
  pub top : Symbol
  pub operator : Operator
  pub stands : at_place place s.equations ≡ Some equation
  pub top_is : leader (symbols_under r) equation ≡ Some top
  pub in_signature : IsOperatorOf r.signature.independents operator
  pub reaches : derivative_by operator top ≡ w

-- the equation's derivative by the operator
abbrev pub derivative_in : {r : RankingValue} {s : State} {w : Symbol} → Reaching r s w → Polynomial Symbol
derivative_in {r = r} x = derivative_of r x.operator x.equation
