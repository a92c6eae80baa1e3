-- Normal forms of a polynomial by a state (Ritt).
use Rattle.std.specs.Prelude.{◌≡◌, ℕ, false, List, Ok}
use Rattle.dz_algebra.specs.Polynomial.{Polynomial}
use Rattle.dz_rank.specs.declared.symbols.Symbol.{Symbol}
use Rattle.dz_diff.specs.Operations.{Setting}
use Rattle.dz_diff.specs.State.{State}
use Rattle.dz_step.specs.FullRun.{admits}
use Rattle.dz_step.specs.Run.{run}
use Rattle.dz_step.specs.declared.Role.TheVariants.{Free}
use Rattle.dz_step.specs.declared.Step.{Step}

-- a free run on f takes these steps to a polynomial that admits no further one
pub record IsNormalForm (g : Setting) (s : State) (f : Polynomial Symbol) (steps : List Step) (remainder : Polynomial Symbol) : Type 0 where
  pub count : ℕ
  pub is_run : run g s Free f steps ≡ Ok (record { end = remainder; count = count })
  pub at_rest : admits g s Free remainder ≡ false
