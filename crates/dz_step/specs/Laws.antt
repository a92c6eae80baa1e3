-- The laws of runs; the crate's law functions ask for their proofs.
use Rattle.std.specs.Prelude.{◌≡◌, ◌≢◌, ◌≤◌, ◌<◌, ℕ, false, List, [], ◌∷◌, ◌++◌, Ok, Err, Some}
use Rattle.std.specs.declared.cmp.Ordering.TheVariants.{Less}
use Rattle.dz_algebra.specs.Norm.{norm}
use Rattle.dz_algebra.specs.Parts.{degree, leader}
use Rattle.dz_algebra.specs.Polynomial.{Polynomial}
use Rattle.dz_rank.specs.Rankings.{RankingValue, ranking_cmp}
use Rattle.dz_rank.specs.Symbols.{IsOperatorOf, derivative_by}
use Rattle.dz_rank.specs.declared.symbols.Symbol.{Symbol}
use Rattle.dz_monomials.specs.Ranked.{symbols_under}
use Rattle.dz_monomials.specs.Lists.{AllOf}
use Rattle.dz_diff.specs.Operations.{Setting, setting_of}
use Rattle.dz_diff.specs.Over.{IsOver}
use Rattle.dz_diff.specs.State.{State, at_place}
use Rattle.dz_step.specs.declared.Role.{Role}
use Rattle.dz_step.specs.declared.Step.{Step}
use Rattle.dz_step.specs.Step.{Stop, no_step, step_in}
use Rattle.dz_step.specs.Run.{Ran, run}
use Rattle.dz_step.specs.FullRun.{admits, finished, stopped, passed, full_run, next_step}

-- a full run on f within a budget takes these steps, a run within the budget, and then the step st is next
pub record RunsUpTo (g : Setting) (s : State) (role : Role) (budget : ℕ) (f : Polynomial Symbol) (steps : List Step) (st : Step) : Type 0 where
  pub so_far : Ran
  pub is_run : run g s role f steps ≡ Ok so_far
  pub within : (so_far).count ≤ budget
  pub is_next : next_step g s role (so_far).end ≡ Some st

-- a full run that comes to its end is a run with this end and count, and the end admits no step
pub record FullRunLaws (g : Setting) : Type 0 where
  pub is_run : (s : State) (role : Role) (budget : ℕ) (f : Polynomial Symbol) (steps : List Step) (end : Polynomial Symbol) (count : ℕ)
      → full_run g s role budget f ≡ finished steps end count → run g s role f steps ≡ Ok (record { end = end; count = count })
  pub at_rest : (s : State) (role : Role) (budget : ℕ) (f : Polynomial Symbol) (steps : List Step) (end : Polynomial Symbol) (count : ℕ)
      → full_run g s role budget f ≡ finished steps end count → admits g s role end ≡ false
  -- its count is within the budget
  pub within : (s : State) (role : Role) (budget : ℕ) (f : Polynomial Symbol) (steps : List Step) (end : Polynomial Symbol) (count : ℕ)
      → full_run g s role budget f ≡ finished steps end count → count ≤ budget
  -- one that is stopped is a run within the budget up to its last step, which is the next one and has no result
  pub is_stopped : (s : State) (role : Role) (budget : ℕ) (f : Polynomial Symbol) (steps : List Step) (st : Step) (stop : Stop)
      → full_run g s role budget f ≡ stopped (steps ++ st ∷ []) stop → (x : RunsUpTo g s role budget f steps st) × (step_in g s role x.so_far.end st ≡ Err stop)
  -- one that is cut is a run within the budget up to its last step, which is the next one, and with it a run past the budget
  pub is_cut : (s : State) (role : Role) (budget : ℕ) (f : Polynomial Symbol) (steps : List Step) (st : Step)
      → full_run g s role budget f ≡ passed (steps ++ st ∷ []) → RunsUpTo g s role budget f steps st × (x : Ran) × (run g s role f (steps ++ st ∷ []) ≡ Ok x) × (budget < x.count)
  -- both have a last step
  pub stopped_at_some : (s : State) (role : Role) (budget : ℕ) (f : Polynomial Symbol) (steps : List Step) (stop : Stop) → full_run g s role budget f ≡ stopped steps stop → steps ≢ []
  pub cut_at_some : (s : State) (role : Role) (budget : ℕ) (f : Polynomial Symbol) (steps : List Step) → full_run g s role budget f ≡ passed steps → steps ≢ []

-- the degree in v is less, and that in no greater symbol is more
abbrev pub IsLower : RankingValue → Symbol → Polynomial Symbol → Polynomial Symbol → Type 0
IsLower r v f x =
    (degree (ranking_cmp r) v x < degree (ranking_cmp r) v f)
    × ((u : Symbol) → ranking_cmp r v u ≡ Less → degree (ranking_cmp r) u x ≤ degree (ranking_cmp r) u f)

-- at a state with equations over a ranking of at most four independents
pub record ReductionLaws (r : RankingValue) (s : State) : Type 0 where
  -- a step lowers the degree in the derivative that its operator makes of its divisor's leader, and raises none above
  pub lowers : (role : Role) (f x q : Polynomial Symbol) (l : Symbol) (st : Step) → IsOver r f → IsOperatorOf r.signature.independents st.operator
      → at_place st.place s.equations ≡ Some q → leader (symbols_under r) q ≡ Some l → step_in (setting_of r) s role f st ≡ Ok x → IsLower r (derivative_by st.operator l) f x
  -- the step that a full run takes next is a step: where it has no result, an operation of it is refused
  pub next_is_step : (role : Role) (f : Polynomial Symbol) (st : Step) → IsOver r f → next_step (setting_of r) s role f ≡ Some st → step_in (setting_of r) s role f st ≢ Err no_step
  -- where a full run finds no step, no place and no operator make one
  pub at_rest : (role : Role) (f : Polynomial Symbol) (st : Step) → admits (setting_of r) s role f ≡ false → IsOperatorOf r.signature.independents st.operator → step_in (setting_of r) s role f st ≡ Err no_step
  -- a run of one step or more does not end where it began
  pub never_returns : (role : Role) (f : Polynomial Symbol) (st : Step) (steps : List Step) (x : Ran) → IsOver r f → AllOf (λ (st : Step). IsOperatorOf r.signature.independents st.operator) (st ∷ steps)
      → run (setting_of r) s role f (st ∷ steps) ≡ Ok x → x.end ≢ norm f
