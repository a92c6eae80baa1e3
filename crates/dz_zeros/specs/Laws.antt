-- The theorem of zero sets: trees, chains, closed states, and runs to zero, at a point.
use Rattle.std.specs.Prelude.{◌≡◌, ◌↔◌, true, [], List, Ok, ℕ}
use Rattle.dz_algebra.specs.Domain.{Operations}
use Rattle.dz_algebra.specs.Polynomial.{Polynomial}
use Rattle.dz_rank.specs.Rankings.{RankingValue}
use Rattle.dz_rank.specs.declared.symbols.Symbol.{Symbol}
use Rattle.dz_monomials.specs.Ranked.{symbols_under}
use Rattle.dz_domain.specs.Point.{Coordinates}
use Rattle.dz_monomials.specs.Lists.{AllOf, SomeOf}
use Rattle.dz_diff.specs.Operations.{setting_of}
use Rattle.dz_diff.specs.State.{State}
use Rattle.dz_move.specs.Root.{System, is_closed}
use Rattle.dz_step.specs.declared.Role.TheVariants.{Free}
use Rattle.dz_step.specs.declared.Step.{Step}
use Rattle.dz_step.specs.Run.{run}
use Rattle.dz_check.specs.Certified.{IsCertified}
use Rattle.dz_tree.specs.Chains.{IsChain}
use Rattle.dz_tree.specs.Trees.{Tree}
use Rattle.dz_check.specs.Walk.{all_chains, chains_of, ends_of, ends_in}
use Rattle.dz_diff.specs.Over.{AreOver, IsOver}
use Rattle.dz_zeros.specs.Runs.{RunsToZero}
use Rattle.dz_zeros.specs.Solves.{HasValueZero, Solves, SolvesChain, SolvesState}

-- what holds at a point that fits a ranking's signature
pub record ZeroSets {E : Type 0} (r : RankingValue) (o : Operations E) (c : Coordinates E) : Type 0 where
  -- the point solves a system exactly when it solves the state at some end of a certified tree for it
  pub of_tree : (system : System) (tree : Tree) → AreOver r system.equations system.inequations
      → IsCertified (setting_of r) system tree
      → Solves o c system.equations system.inequations
      ↔ SomeOf (λ e. SolvesState o c e.state) (ends_in (ends_of (setting_of r) system tree))
  -- where it solves the state of a chain, it is a regular zero of the chain
  pub of_chain : (s : State) → AreOver r s.equations s.inequations → IsChain (setting_of r) s → SolvesState o c s → SolvesChain (symbols_under r) o c s
  -- the point solves a system exactly when it is a regular zero of some chain of a complete certified tree for it
  pub of_complete : (system : System) (tree : Tree) → AreOver r system.equations system.inequations
      → IsCertified (setting_of r) system tree → all_chains (ends_in (ends_of (setting_of r) system tree)) ≡ true
      → Solves o c system.equations system.inequations
      ↔ SomeOf (SolvesChain (symbols_under r) o c) (chains_of (ends_in (ends_of (setting_of r) system tree)))
  -- a polynomial with a free run to zero by each chain of a complete certified tree for a system has value zero where the point
  -- solves the system
  pub of_vanishing : (system : System) (tree : Tree) (f : Polynomial Symbol) → AreOver r system.equations system.inequations → IsOver r f
      → IsCertified (setting_of r) system tree → all_chains (ends_in (ends_of (setting_of r) system tree)) ≡ true
      → AllOf (λ s. RunsToZero (setting_of r) s f) (chains_of (ends_in (ends_of (setting_of r) system tree)))
      → Solves o c system.equations system.inequations → HasValueZero o c f
  -- it solves no closed state
  pub of_closed : (s : State) → AreOver r s.equations s.inequations → is_closed (symbols_under r) s ≡ true → SolvesState o c s → ⊥
  -- a polynomial with a free run to zero by a state has value zero where the point solves the state
  pub of_run : (s : State) (f : Polynomial Symbol) (steps : List Step) (count : ℕ) → AreOver r s.equations s.inequations → IsOver r f
      → run (setting_of r) s Free f steps ≡ Ok (record { end = []; count = count }) → SolvesState o c s → HasValueZero o c f
