-- The operators of steps, and the signature to which they belong.
use Rattle.std.specs.Prelude.{⊤, ℕ, List}
use Rattle.dz_rank.specs.Symbols.{IsOperatorOf}
use Rattle.dz_monomials.specs.Lists.{AllOf}
use Rattle.dz_step.specs.declared.Step.{Step}
use Rattle.dz_step.specs.declared.attempts.Attempt.{Attempt}
use Rattle.dz_step.specs.declared.attempts.AttemptStop.{AttemptStop}
use Rattle.dz_step.specs.declared.attempts.AttemptStop.TheVariants.{Memory, Wide, Large, Spent}
use Rattle.dz_step.specs.FullRun.{Course, finished, stopped, passed}

-- the steps derive in the directions of n independents alone
abbrev pub DeriveAlong : ℕ → List Step → Type 0
DeriveAlong n steps = AllOf (λ (st : Step). IsOperatorOf n st.operator) steps

-- so does the step that a stop names
abbrev pub StopDerivesAlong : ℕ → AttemptStop → Type 0
StopDerivesAlong n Memory = ⊤
StopDerivesAlong n (Wide step) = IsOperatorOf n step.operator
StopDerivesAlong n (Large limit step) = IsOperatorOf n step.operator
StopDerivesAlong n (Spent step) = IsOperatorOf n step.operator

-- and so do the steps of a run that stops, with the one at which it does
pub record AttemptDerivesAlong (n : ℕ) (a : Attempt) : Type 0 where
  pub run : DeriveAlong n a.run
  pub stop : StopDerivesAlong n a.stop

-- all steps of a full run, with the one at which it stops
abbrev pub course_steps : Course → List Step
course_steps (finished steps end count) = steps
course_steps (stopped steps stop) = steps
course_steps (passed steps) = steps
