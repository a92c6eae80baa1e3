-- Full runs that a call takes: their ends, and how they stop before.
use Rattle.std.specs.Prelude.{◌≡◌, ◌-◌, List, [], ◌∷◌, ◌++◌, length, take, Option, Some, None}
use Rattle.dz_algebra.specs.Polynomial.{Polynomial}
use Rattle.dz_algebra.specs.Size.{wide, large}
use Rattle.dz_rank.specs.declared.symbols.Symbol.{Symbol}
use Rattle.dz_step.specs.declared.Step.{Step}
use Rattle.dz_step.specs.declared.attempts.AttemptStop.{AttemptStop}
use Rattle.dz_step.specs.declared.attempts.AttemptStop.TheVariants.{Memory, Wide, Large, Spent}
use Rattle.dz_step.specs.FullRun.{Course, finished, stopped, passed}
use Rattle.dz_step.specs.Step.{refused}

-- the steps that a full run takes, each with a result and within the budget: all but the last, where that one stops it
abbrev pub steps_taken : Course → List Step
steps_taken (finished steps end count) = steps
steps_taken (stopped steps stop) = take (length steps - 1) steps
steps_taken (passed steps) = take (length steps - 1) steps

-- the steps and the end of a full run that comes to its end
abbrev pub ended : Course → Option (List Step × Polynomial Symbol)
ended (finished steps end count) = Some (steps, end)
ended (stopped steps stop) = None
ended (passed steps) = None

-- further steps after some make a list
abbrev pub IsPrefix : List Step → List Step → Type 0
IsPrefix done steps = (more : List Step) × (done ++ more ≡ steps)

-- a full run was taken so far, and stopped at its next step, which has no result or passes the budget; memory may run out
-- before or after any of the steps that it takes
abbrev pub IsAttemptOf : Course → List Step → AttemptStop → Type 0
IsAttemptOf course run Memory = IsPrefix run (steps_taken course)
IsAttemptOf course run (Wide step) = course ≡ stopped (run ++ step ∷ []) (refused wide)
IsAttemptOf course run (Large limit step) = course ≡ stopped (run ++ step ∷ []) (refused (large limit))
IsAttemptOf course run (Spent step) = course ≡ passed (run ++ step ∷ [])
