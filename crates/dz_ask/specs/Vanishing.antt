-- Whether full runs by chains come to zero.
use Rattle.std.specs.Prelude.{◌≡◌, ◌≢◌, ◌+◌, ℕ, Bool, true, false, take, slice_get, List, [], Some}
use Rattle.dz_algebra.specs.Polynomial.{Polynomial}
use Rattle.dz_rank.specs.declared.symbols.Symbol.{Symbol}
use Rattle.dz_monomials.specs.Lists.{AllOf}
use Rattle.dz_diff.specs.Operations.{Setting}
use Rattle.dz_diff.specs.State.{State}
use Rattle.dz_step.specs.Attempts.{IsAttemptOf, ended}
use Rattle.dz_step.specs.FullRun.{full_run}
use Rattle.dz_step.specs.declared.Role.TheVariants.{Free}
use Rattle.dz_step.specs.declared.Step.{Step}
use Rattle.dz_ask.specs.declared.vanishing.VanishStop.{VanishStop}

-- the full free run on f by a chain ends at zero
abbrev pub RunsToZero : Setting → ℕ → Polynomial Symbol → State → Type 0
RunsToZero g budget f s = (steps : List Step) × (ended (full_run g s Free budget f) ≡ Some (steps, []))

-- it ends at a remainder that is not zero
abbrev pub LeavesRemainder : Setting → ℕ → Polynomial Symbol → State → Type 0
LeavesRemainder g budget f s = (steps : List Step) × (p : Polynomial Symbol) × (ended (full_run g s Free budget f) ≡ Some (steps, p)) × (p ≢ [])

-- the first chains have runs to zero, and what is said of the next is so
pub record HasFirst (g : Setting) (budget : ℕ) (f : Polynomial Symbol) (P : State → Type 0) (chains : List State) (n : ℕ) : Type 0 where
  pub zeros : AllOf (RunsToZero g budget f) (take n chains)
  pub chain : State
  pub stands : slice_get chains n ≡ Some chain
  pub is_so : P chain

-- the full run by the chain of a number, counted from 1, stops as an attempt says, and those by all before end at zero
abbrev pub IsVanishStop : Setting → ℕ → Polynomial Symbol → List State → VanishStop → Type 0
IsVanishStop g budget f chains stop =
    (n : ℕ) × (stop.chain ≡ n + 1) × HasFirst g budget f (λ s. IsAttemptOf (full_run g s Free budget f) stop.attempt.run stop.attempt.stop) chains n

-- f is found to vanish, or not to, by the runs up to the first that leaves a remainder
abbrev pub IsVanishing : Setting → ℕ → Polynomial Symbol → List State → Bool → Type 0
IsVanishing g budget f chains true = AllOf (RunsToZero g budget f) chains
IsVanishing g budget f chains false = (n : ℕ) × HasFirst g budget f (LeavesRemainder g budget f) chains n
