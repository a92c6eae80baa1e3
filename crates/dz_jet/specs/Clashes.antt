-- What the theorem that jets never clash speaks of: chains with evidence, and values of symbols in a domain.
use Rattle.std.specs.Prelude.{◌≡◌, ◌≤◌, ℕ, Bool, true, List, Ok, Some, IsTrue}
use Rattle.std.specs.declared.cmp.Ordering.TheVariants.{Less}
use Rattle.dz_algebra.specs.Domain.{Operations}
use Rattle.dz_algebra.specs.Parts.{initial, leader, separant}
use Rattle.dz_algebra.specs.Polynomial.{Polynomial}
use Rattle.dz_algebra.specs.Value.{value}
use Rattle.dz_rank.specs.Rankings.{RankingValue, ranking_cmp}
use Rattle.dz_rank.specs.Symbols.{BelongsTo, IsOperatorOf, is_derivative}
use Rattle.dz_rank.specs.declared.symbols.Symbol.{Symbol}
use Rattle.dz_monomials.specs.Ranked.{symbols_under}
use Rattle.dz_monomials.specs.Lists.{AllOf, SomeOf}
use Rattle.dz_diff.specs.Operations.{setting_of}
use Rattle.dz_diff.specs.Operators.{is_proper}
use Rattle.dz_diff.specs.Over.{IsOver}
use Rattle.dz_diff.specs.State.{State}
use Rattle.dz_move.specs.Lines.{Evidence}
use Rattle.dz_tree.specs.Chain.{chain_weight}
use Rattle.dz_jet.specs.Chains.{Reaching, derivative_in}

-- a state with polynomials over a ranking is a chain with the evidence, whatever that weighs
pub record IsChain (r : RankingValue) (s : State) (evidence : List Evidence) : Type 0 where
  pub few : r.signature.independents ≤ 4
  pub over : AllOf (IsOver r) s.equations
  pub affordable : ℕ → Bool
  pub weight : ℕ
  pub holds : chain_weight (setting_of r) s affordable evidence ≡ Ok weight
  pub in_signature : AllOf (λ e. AllOf (λ st. IsOperatorOf r.signature.independents st.operator) e.steps) evidence

-- the polynomial has value zero
abbrev pub HasZero : {E : Type 0} → Operations E → (Symbol → E) → Polynomial Symbol → Type 0
HasZero o at p = value o.arithmetic at p ≡ o.zero

-- every symbol has a value in the domain; the equations have value zero, and their initials and separants have not
pub record AreAdmissible {E : Type 0} (r : RankingValue) (s : State) (o : Operations E) (at : Symbol → E) : Type 0 where
  pub values : (v : Symbol) → IsTrue (o.is_value (at v))
  pub equations : AllOf (HasZero o at) s.equations
  pub initials : AllOf (λ p. (v : Symbol) → leader (symbols_under r) p ≡ Some v → HasZero o at (initial (ranking_cmp r) v p) → ⊥) s.equations
  pub separants : AllOf (λ p. (v : Symbol) → leader (symbols_under r) p ≡ Some v → HasZero o at (separant (ranking_cmp r) v p) → ⊥) s.equations

-- where a proper derivative of an equation leads to w, one that leads to w has value zero
abbrev pub IsFixed : {E : Type 0} → RankingValue → State → Operations E → (Symbol → E) → Symbol → Type 0
IsFixed r s o at w = (x : Reaching r s w) → is_proper x.operator ≡ true → (y : Reaching r s w) × HasZero o at (derivative_in y)

-- no derivative of an equation that leads to w clashes with the values: each has value zero
abbrev pub AgreesAt : {E : Type 0} → RankingValue → State → Operations E → (Symbol → E) → Symbol → Type 0
AgreesAt r s o at w = (x : Reaching r s w) → HasZero o at (derivative_in x)

-- a derivative of the signature
abbrev pub IsDerivativeIn : RankingValue → Symbol → Type 0
IsDerivativeIn r v = IsTrue (is_derivative v) × BelongsTo r.signature v

-- a test of derivatives that passes with one all that are below it, and finitely many in all
pub record IsInitialSegment (r : RankingValue) (test : Symbol → Bool) : Type 0 where
  pub lower : (v w : Symbol) → IsDerivativeIn r v → IsDerivativeIn r w → ranking_cmp r v w ≡ Less → IsTrue (test w) → IsTrue (test v)
  pub members : List Symbol
  pub all : (v : Symbol) → IsDerivativeIn r v → IsTrue (test v) → SomeOf (λ u. u ≡ v) members
