-- A full run that comes to its end is a run whose end admits no step; where it does not, the run so far holds.
use Rattle.std.proofs.Common.{◌≡◌, ◌≢◌, ◌≤◌, ◌<◌, ◌+◌, ℕ, List, [], ◌∷◌, ◌++◌, length, sym, ap, ◌∙◌, subst, Ok, Err, Some, None}
use Rattle.std.specs.Prelude.{is_some}
use Rattle.dz_algebra.specs.Norm.{norm}
use Rattle.dz_algebra.specs.Polynomial.{Polynomial}
use Rattle.dz_rank.specs.declared.symbols.Symbol.{Symbol}
use Rattle.dz_diff.specs.Operations.{Setting}
use Rattle.dz_diff.specs.State.{State}
use Rattle.dz_step.specs.declared.Role.{Role}
use Rattle.dz_step.specs.declared.Step.{Step}
use Rattle.dz_step.specs.Step.{Stop, step_in}
use Rattle.dz_step.specs.Run.{Ran, run_from, run}
use Rattle.dz_step.specs.FullRun.{finished, stopped, passed, full_run, next_step}
use Rattle.dz_step.specs.Laws.{FullRunLaws, RunsUpTo}
use Rattle.dz_step.proofs.Courses.{Goes, IsRun, IsRunUpTo, goes_from_norm, push_not_empty, push_same, run_goes_on}

module _ (g : Setting) (s : State) (role : Role) (budget : ℕ) (f : Polynomial Symbol) where
  -- what a full run does that comes to its end
  is_finished : (steps : List Step) (end : Polynomial Symbol) (c : ℕ) → full_run g s role budget f ≡ finished steps end c → IsRun g s role budget (norm f) 0 1 [] steps end c
  is_finished steps end c e = subst (Goes g s role budget (norm f) 0 1 []) e (goes_from_norm g s role budget f)

  -- a finished full run is a run, and its end admits no step
  pub full_run_is_run : (steps : List Step) (end : Polynomial Symbol) (c : ℕ) → full_run g s role budget f ≡ finished steps end c
      → (run g s role f steps ≡ Ok (record { end = end; count = c })) × (next_step g s role end ≡ None)
  full_run_is_run steps end c e =
      let k = is_finished steps end c e in
      (ap (run_from g s role 1 (norm f) 0) k.steps_are ∙ k.is_run, k.at_rest)

  -- it is within the budget
  pub full_run_low : (steps : List Step) (end : Polynomial Symbol) (c : ℕ) → full_run g s role budget f ≡ finished steps end c → c ≤ budget
  full_run_low steps end c e = (is_finished steps end c e).within

  -- up to a last step that is named
  abbrev up_to : (steps : List Step) (st : Step) (k : IsRunUpTo g s role budget (norm f) 0 1 [] (steps ++ st ∷ [])) → RunsUpTo g s role budget f steps st
  up_to steps st k =
      let same = push_same steps k.more st k.last k.steps_are in
      record { so_far = k.ran; is_run = ap (run g s role f) same.0 ∙ k.is_run; within = k.within; is_next = k.is_next ∙ ap Some (sym same.1) }

  -- a stopped full run is a run up to its last step, which has no result
  full_run_stopped : (steps : List Step) (st : Step) (stop : Stop) → full_run g s role budget f ≡ stopped (steps ++ st ∷ []) stop
      → (x : RunsUpTo g s role budget f steps st) × (step_in g s role x.so_far.end st ≡ Err stop)
  full_run_stopped steps st stop e =
      let k = subst (Goes g s role budget (norm f) 0 1 []) e (goes_from_norm g s role budget f) in
      let same = push_same steps k.0.more st k.0.last k.0.steps_are in
      (up_to steps st k.0, ap (step_in g s role k.0.ran.end) same.1 ∙ k.1)

  -- one that is cut is a run up to its last step, and past the budget with it
  full_run_cut : (steps : List Step) (st : Step) → full_run g s role budget f ≡ passed (steps ++ st ∷ [])
      → RunsUpTo g s role budget f steps st × (x : Ran) × (run g s role f (steps ++ st ∷ []) ≡ Ok x) × (budget < x.count)
  full_run_cut steps st e =
      let k = subst (Goes g s role budget (norm f) 0 1 []) e (goes_from_norm g s role budget f) in (
        up_to steps st k.0,
        record { end = k.1; count = k.0.ran.count + 1 + length k.1 },
        ap (run g s role f) k.0.steps_are ∙ run_goes_on g s role k.0.more 1 (norm f) 0 k.0.ran k.0.last k.1 k.0.is_run k.2,
        k.3,
      )

  -- up to a last step there is one
  not_empty : (steps : List Step) → IsRunUpTo g s role budget (norm f) 0 1 [] steps → steps ≢ []
  not_empty steps k e = push_not_empty k.more k.last (sym k.steps_are ∙ e)

  stopped_not_empty : (steps : List Step) (stop : Stop) → full_run g s role budget f ≡ stopped steps stop → steps ≢ []
  stopped_not_empty steps stop e = not_empty steps (subst (Goes g s role budget (norm f) 0 1 []) e (goes_from_norm g s role budget f)).0

  cut_not_empty : (steps : List Step) → full_run g s role budget f ≡ passed steps → steps ≢ []
  cut_not_empty steps e = not_empty steps (subst (Goes g s role budget (norm f) 0 1 []) e (goes_from_norm g s role budget f)).0

-- the laws of full runs
pub full_run_laws : (g : Setting) → FullRunLaws g
full_run_laws g = record {
  is_run = λ s role budget f steps end count e. (full_run_is_run g s role budget f steps end count e).0;
  at_rest = λ s role budget f steps end count e. ap is_some (full_run_is_run g s role budget f steps end count e).1;
  within = λ s role budget f steps end count e. full_run_low g s role budget f steps end count e;
  is_stopped = λ s role budget f steps st stop e. full_run_stopped g s role budget f steps st stop e;
  is_cut = λ s role budget f steps st e. full_run_cut g s role budget f steps st e;
  stopped_at_some = λ s role budget f steps stop e. stopped_not_empty g s role budget f steps stop e;
  cut_at_some = λ s role budget f steps e. cut_not_empty g s role budget f steps e;
}
