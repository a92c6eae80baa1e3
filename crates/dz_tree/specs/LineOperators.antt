-- The operators in lines, and the signature to which they belong.
use Rattle.std.specs.Prelude.{ℕ, List, []}
use Rattle.dz_step.specs.declared.Step.{Step}
use Rattle.dz_monomials.specs.Lists.{AllOf}
use Rattle.dz_step.specs.StepOperators.{DeriveAlong}
use Rattle.dz_move.specs.Moves.{steps_of}
use Rattle.dz_move.specs.Lines.{Line, act, pair, spent, open_wide, open_large}

-- the steps that a line writes
abbrev pub steps_in : Line → List Step
steps_in (act action) = steps_of action
steps_in (pair e) = e.steps
steps_in (spent action) = steps_of action
steps_in (open_wide action) = steps_of action
steps_in (open_large limit action) = steps_of action
steps_in line = []

-- the steps of all lines derive in the directions of n independents alone
abbrev pub HaveOperatorsOf : ℕ → List Line → Type 0
HaveOperatorsOf n lines = AllOf (λ line. DeriveAlong n (steps_in line)) lines
