-- Permission, and steps of reduction (Ritt; the canonical form of the result is this project's).
use Rattle.std.specs.Prelude.{ℕ, ◌-◌, ◌==◌, nat_le, Bool, true, false, not, ◌||◌, cond, pos, Result, Ok, Err}
use Rattle.dz_algebra.specs.Monomial.{monomial_cmp}
use Rattle.dz_algebra.specs.Polynomial.{Polynomial, collect}
use Rattle.dz_algebra.specs.Parts.{degree, coefficient_of, initial, leader}
use Rattle.dz_algebra.specs.Norm.{gcd, content, divided, norm}
use Rattle.dz_algebra.specs.Size.{Refusal, difference_answer, product_answer, separant_answer}
use Rattle.dz_algebra.specs.Symbols.{Symbols}
use Rattle.dz_rank.specs.declared.symbols.Operator.{Operator}
use Rattle.dz_rank.specs.declared.symbols.Symbol.{Symbol}
use Rattle.dz_rank.specs.Symbols.{derivative_by}
use Rattle.dz_algebra.specs.Outcome.{◌>>=◌, needs, given, told_as}
use Rattle.dz_diff.specs.Tests.{Polynomials, is_unit, is_member}
use Rattle.dz_diff.specs.Operators.{is_proper}
use Rattle.dz_diff.specs.Operations.{Setting, operator_answer}
use Rattle.dz_monomials.specs.Terms.{times_power}
use Rattle.dz_diff.specs.State.{State, at_place, without_place}
use Rattle.dz_step.specs.declared.Which.{Which}
use Rattle.dz_step.specs.declared.Which.TheVariants.{Initial, Separant}
use Rattle.dz_step.specs.declared.Role.{Role}
use Rattle.dz_step.specs.declared.Role.TheVariants.{Free, Equation, Inequation}
use Rattle.dz_step.specs.declared.Step.{Step}

-- why a step has no result: an operation of it is refused, or it is no step
pub data Stop : Type 0 where
  refused : Refusal → Stop
  no_step : Stop

-- ---- multipliers
-- the initial or the separant of a polynomial with leader v; an initial takes no operation
abbrev pub multiplier_answer : Symbols Symbol → Which → Symbol → Polynomial Symbol → Result (Polynomial Symbol) Refusal
multiplier_answer g Initial v q = Ok (collect (monomial_cmp g.cmp) (initial g.cmp v q))
multiplier_answer g Separant v q = separant_answer g v q

-- ground and not zero, or the norm is one of the inequations
abbrev pub is_allowed : Symbols Symbol → Polynomials → Polynomial Symbol → Bool
is_allowed g hs m = is_unit g m || is_member g (norm m) hs

-- a multiplier is permitted if computing it fits and it is allowed
abbrev pub permitted_if : Symbols Symbol → Polynomials → Result (Polynomial Symbol) Refusal → Bool
permitted_if g hs (Ok m) = is_allowed g hs m
permitted_if g hs (Err refusal) = false

-- ---- roles
-- the inequations that permit multipliers in a role
abbrev pub usable : Role → Polynomials → Polynomials
usable Free hs = hs
usable (Equation i) hs = hs
usable (Inequation j) hs = without_place j hs

-- the equation at place j is a divisor in a role
abbrev pub is_divisor : Role → ℕ → Bool
is_divisor Free j = true
is_divisor (Equation i) j = not (i == j)
is_divisor (Inequation i) j = true

-- ---- steps
-- the initial of an operator's derivative of q: for a proper operator it is the separant of q
abbrev pub multiplier_of : Operator → Which
multiplier_of t = cond (is_proper t) Separant Initial

-- the multiplier of a step by q with leader l is permitted
abbrev pub is_permitted : Setting → State → Role → Polynomial Symbol → Symbol → Operator → Bool
is_permitted g s role q l t = permitted_if g.symbols (usable role s.inequations) (multiplier_answer g.symbols (multiplier_of t) l q)

-- the degree that an operator's derivative of q has in its leader, where q has the leader l
abbrev pub step_degree : Symbols Symbol → Operator → Symbol → Polynomial Symbol → ℕ
step_degree g t l q = cond (is_proper t) 1 (degree g.cmp l q)

-- what a reduction of f by q makes: the factor times f is the rest and the shift times q
pub record Reduction : Type 0 where
  pub factor : Polynomial Symbol
  pub shift : Polynomial Symbol
  pub rest : Polynomial Symbol

-- The reduction of f, of degree d in v, by a polynomial q of degree e in v with the initial m (Ritt's pseudo-division): with c
-- the coefficient of v^d in f and k the greatest common divisor of the coefficients of m and c, the factor is m/k, the shift is
-- (c/k)*v^(d-e), and the rest is what the shift times q leaves of the factor times f. There are two products and a difference,
-- in this order.
abbrev pub reduction_by : Symbols Symbol → Polynomial Symbol → Polynomial Symbol → Polynomial Symbol → Symbol → ℕ → ℕ → Result Reduction Refusal
reduction_by g f q m v d e =
    let c = coefficient_of g.cmp v d f in
    let k = pos (gcd (content m) (content c)) in
    let factor = divided k m in
    let shift = times_power g.cmp v (d - e) (divided k c) in do
      left ← product_answer g factor f
      right ← product_answer g shift q
      rest ← difference_answer g left right
      Ok (record { factor = factor; shift = shift; rest = rest })

-- the reduction of f by an operator's derivative of q, without the test of permission: first the operator's derivations
abbrev pub reduction_answer : Setting → Polynomial Symbol → Polynomial Symbol → Operator → Result Reduction Stop
reduction_answer g f q t = do
  l ← given (leader g.symbols q) no_step
  _ ← needs (nat_le (step_degree g.symbols t l q) (degree g.symbols.cmp (derivative_by t l) f)) no_step
  p ← told_as refused (operator_answer g t q)
  m ← told_as refused (multiplier_answer g.symbols (multiplier_of t) l q)
  told_as refused (reduction_by g.symbols f p m (derivative_by t l) (degree g.symbols.cmp (derivative_by t l) f) (step_degree g.symbols t l q))

-- the reduction of f by the equation and the operator of a step, without the test of permission
abbrev pub reduction_at : Setting → State → Polynomial Symbol → Step → Result Reduction Stop
reduction_at g s f st = given (at_place st.place s.equations) no_step >>= (λ q. reduction_answer g f q st.operator)

-- a step is a reduction of which the norm of the rest is kept
abbrev pub normed : {E : Type 0} → Result Reduction E → Result (Polynomial Symbol) E
normed x = x >>= (λ y. Ok (norm y.rest))

-- the step on f by a polynomial
abbrev pub step_by : Symbols Symbol → Polynomial Symbol → Polynomial Symbol → Polynomial Symbol → Symbol → ℕ → ℕ → Result (Polynomial Symbol) Refusal
step_by g f q m v d e = normed (reduction_by g f q m v d e)

-- the step on f by an operator's derivative of q, without the test of permission
abbrev pub step_answer : Setting → Polynomial Symbol → Polynomial Symbol → Operator → Result (Polynomial Symbol) Stop
step_answer g f q t = normed (reduction_answer g f q t)

-- a step on f at a state in a role, with all its conditions
abbrev pub step_in : Setting → State → Role → Polynomial Symbol → Step → Result (Polynomial Symbol) Stop
step_in g s role f st = do
  _ ← needs (is_divisor role st.place) no_step
  q ← given (at_place st.place s.equations) no_step
  l ← given (leader g.symbols q) no_step
  _ ← needs (is_permitted g s role q l st.operator) no_step
  step_answer g f q st.operator
