-- Runs: steps, each on the result of the one before (this project).
use Rattle.std.specs.Prelude.{ℕ, suc, ◌+◌, List, [], ◌∷◌, length, Result, Ok}
use Rattle.dz_algebra.specs.Polynomial.{Polynomial}
use Rattle.dz_algebra.specs.Norm.{norm}
use Rattle.dz_rank.specs.declared.symbols.Symbol.{Symbol}
use Rattle.dz_algebra.specs.Outcome.{◌>>=◌, numbered}
use Rattle.dz_diff.specs.Operations.{Setting}
use Rattle.dz_diff.specs.State.{State}
use Rattle.dz_step.specs.declared.Role.{Role}
use Rattle.dz_step.specs.declared.Step.{Step}
use Rattle.dz_step.specs.Step.{Stop, step_in}

-- the end of a run, and its count: the number of its steps and the terms of all their results
pub record Ran : Type 0 where
  pub end : Polynomial Symbol
  pub count : ℕ

-- the steps from the n-th on; a refusal is told with the number of its step
abbrev pub run_from : Setting → State → Role → ℕ → Polynomial Symbol → ℕ → List Step → Result Ran (ℕ × Stop)
run_from g s role n f count [] = Ok (record { end = f; count = count })
run_from g s role n f count (st ∷ steps) = numbered n (step_in g s role f st) >>= (λ r. run_from g s role (suc n) r (count + 1 + length r) steps)

-- a run on f in a role, the first step on the norm of f
abbrev pub run : Setting → State → Role → Polynomial Symbol → List Step → Result Ran (ℕ × Stop)
run g s role f steps = run_from g s role 1 (norm f) 0 steps
