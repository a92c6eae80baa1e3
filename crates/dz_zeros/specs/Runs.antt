-- Runs that come to zero.
use Rattle.std.specs.Prelude.{◌≡◌, ℕ, List, [], Ok}
use Rattle.dz_algebra.specs.Polynomial.{Polynomial}
use Rattle.dz_rank.specs.declared.symbols.Symbol.{Symbol}
use Rattle.dz_diff.specs.Operations.{Setting}
use Rattle.dz_diff.specs.State.{State}
use Rattle.dz_step.specs.declared.Role.TheVariants.{Free}
use Rattle.dz_step.specs.declared.Step.{Step}
use Rattle.dz_step.specs.Run.{run}

-- some free run from a polynomial by a state ends at zero
pub record RunsToZero (g : Setting) (s : State) (f : Polynomial Symbol) : Type 0 where
  pub steps : List Step
  pub count : ℕ
  pub is : run g s Free f steps ≡ Ok (record { end = []; count = count })
