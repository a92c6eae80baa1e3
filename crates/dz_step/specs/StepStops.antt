-- What a call answers where a step has no result.
use Rattle.std.specs.Prelude.{◌≡◌, ◌⊎◌, ℕ, Option, Some, None, Result, Ok, Err}
use Rattle.dz_algebra.specs.Polynomial.{Polynomial}
use Rattle.dz_algebra.specs.Size.{wide, large}
use Rattle.dz_rank.specs.declared.symbols.Symbol.{Symbol}
use Rattle.dz_poly.specs.Books.{BookValue, Means}
use Rattle.dz_monomials.specs.declared.PolyStop.{PolyStop}
use Rattle.dz_monomials.specs.declared.PolyStop.TheVariants as stops
use Rattle.dz_step.specs.Step.{Stop, refused, no_step}
use Rattle.dz_step.specs.declared.stepping.StepStop.{StepStop}
use Rattle.dz_step.specs.declared.stepping.StepStop.TheVariants.{Memory, Wide, Large, NotStep}

-- why a step has no result, as the error of a call
abbrev pub stop_of : {A : Type 0} → Result A Stop → Option StepStop
stop_of (Ok a) = None
stop_of (Err (refused wide)) = Some Wide
stop_of (Err (refused (large l))) = Some (Large l)
stop_of (Err no_step) = Some NotStep

-- a stop is the one that the definition answers; want of memory may come instead
abbrev pub IsStepStop : {A : Type 0} → StepStop → Result A Stop → Type 0
IsStepStop stop answer = (stop ≡ Memory) ⊎ (stop_of answer ≡ Some stop)

-- a result is the number of what the definition answers, or a stop
abbrev pub GivesStep : BookValue → Result ℕ StepStop → Result (Polynomial Symbol) Stop → Type 0
GivesStep new (Ok p) (Ok q) = Means new p q
GivesStep new (Ok p) (Err e) = ⊥
GivesStep new (Err stop) answer = IsStepStop stop answer

-- the error of an operation, as that of its step
abbrev pub step_stop : PolyStop → StepStop
step_stop stops.Memory = Memory
step_stop stops.Wide = Wide
step_stop (stops.Large l) = Large l
