-- Full runs: as long as there is a step, the one at the greatest symbol, with the least place (this project).
use Rattle.std.specs.Prelude.{ℕ, zero, suc, ◌+◌, nat_le, nat_lt, Bool, ◌&&◌, cond, List, [], ◌∷◌, ◌++◌, length, Option, Some, None, is_some, Ok, Err}
use Rattle.dz_algebra.specs.Monomial.{Monomial}
use Rattle.dz_algebra.specs.Polynomial.{Polynomial}
use Rattle.dz_algebra.specs.Norm.{norm}
use Rattle.dz_algebra.specs.Parts.{degree, leader}
use Rattle.dz_algebra.specs.Size.{with_symbol}
use Rattle.dz_algebra.specs.Symbols.{Symbols}
use Rattle.dz_rank.specs.declared.symbols.Symbol.{Symbol}
use Rattle.dz_diff.specs.Operators.{quotient}
use Rattle.dz_diff.specs.Operations.{Setting}
use Rattle.dz_diff.specs.State.{State}
use Rattle.dz_step.specs.declared.Role.{Role}
use Rattle.dz_step.specs.declared.Step.{Step}
use Rattle.dz_step.specs.Step.{Stop, is_divisor, is_permitted, step_degree, step_in}

-- ---- the derivatives that occur, the greatest first, each once
-- a falling list with the derivatives of a monomial
abbrev pub with_derivatives : Symbols Symbol → Monomial Symbol → List Symbol → List Symbol
with_derivatives g [] ss = ss
with_derivatives g (p ∷ m) ss = cond (g.is_derivative p.0) (with_symbol g.cmp p.0 (with_derivatives g m ss)) (with_derivatives g m ss)

-- the derivatives of a polynomial
abbrev pub derivatives_of : Symbols Symbol → Polynomial Symbol → List Symbol
derivatives_of g [] = []
derivatives_of g (t ∷ p) = with_derivatives g t.0 (derivatives_of g p)

-- ---- the step that is next
-- the first of two, where there is one
abbrev pub or_else : {A : Type 0} → Option A → Option A → Option A
or_else (Some x) o = Some x
or_else None o = o

-- the step on f at v by the equation q at place j, if q has a leader and makes one
abbrev pub step_with : Setting → State → Role → Polynomial Symbol → Symbol → ℕ → Polynomial Symbol → Option Symbol → Option Step
step_with g s role f v j q None = None
step_with g s role f v j q (Some l) =
    elim (quotient v l) [
      | None ↦ None
      | Some t ↦ cond (is_divisor role j && nat_le (step_degree g.symbols t l q) (degree g.symbols.cmp v f) && is_permitted g s role q l t) (Some (record { place = j; operator = t })) None
    ]

-- the step on f at v with the least place from the j-th on
abbrev pub step_at : Setting → State → Role → Polynomial Symbol → Symbol → ℕ → List (Polynomial Symbol) → Option Step
step_at g s role f v j [] = None
step_at g s role f v j (q ∷ qs) = or_else (step_with g s role f v j q (leader g.symbols q)) (step_at g s role f v (suc j) qs)

-- the step on f at the first of some symbols at which there is one
abbrev pub first_step : Setting → State → Role → Polynomial Symbol → List Symbol → Option Step
first_step g s role f [] = None
first_step g s role f (v ∷ vs) = or_else (step_at g s role f v 1 s.equations) (first_step g s role f vs)

-- the step on f at the greatest symbol at which there is one, with the least place
abbrev pub next_step : Setting → State → Role → Polynomial Symbol → Option Step
next_step g s role f = first_step g s role f (derivatives_of g.symbols f)

-- some place and operator make a step on f
abbrev pub admits : Setting → State → Role → Polynomial Symbol → Bool
admits g s role f = is_some (next_step g s role f)

-- ---- full runs
-- how a full run goes: to its end, with its count; or up to a step that has no result or passes the budget
pub data Course : Type 0 where
  finished : List Step → Polynomial Symbol → ℕ → Course
  stopped : List Step → Stop → Course
  passed : List Step → Course

-- The full run from f on, after some steps. Each step counts at least one, so the rounds need not be more than the budget and
-- one.
abbrev pub full_run_from : Setting → State → Role → ℕ → ℕ → List Step → Polynomial Symbol → ℕ → Course
full_run_from g s role budget zero steps f count = passed steps
full_run_from g s role budget (suc rounds) steps f count =
    elim (next_step g s role f) [
      | None ↦ finished steps f count
      | Some st ↦ elim (step_in g s role f st) [
        | Err stop ↦ stopped (steps ++ st ∷ []) stop
        | Ok r ↦ cond (nat_lt budget (count + 1 + length r)) (passed (steps ++ st ∷ [])) (full_run_from g s role budget rounds (steps ++ st ∷ []) r (count + 1 + length r))
      ]
    ]

-- the full run on f within a budget
unfoldable pub full_run : Setting → State → Role → ℕ → Polynomial Symbol → Course
full_run g s role budget f = full_run_from g s role budget (suc budget) [] (norm f) 0
