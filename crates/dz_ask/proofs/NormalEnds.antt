-- The end of a full free run is a normal form.
use Rattle.std.proofs.Common.{◌≡◌, ℕ, List, Some, refl, ap, subst}
use Rattle.dz_algebra.specs.Polynomial.{Polynomial}
use Rattle.dz_rank.specs.declared.symbols.Symbol.{Symbol}
use Rattle.dz_diff.specs.Operations.{Setting}
use Rattle.dz_diff.specs.State.{State}
use Rattle.dz_step.specs.Attempts.{ended}
use Rattle.dz_step.specs.FullRun.{Course, finished, stopped, passed, full_run}
use Rattle.dz_step.specs.declared.Role.TheVariants.{Free}
use Rattle.dz_step.specs.declared.Step.{Step}
use Rattle.dz_step.proofs.FullRuns.{full_run_laws}
use Rattle.dz_ask.specs.NormalForms.{IsNormalForm}

-- what a full free run ends at is a normal form
pub ended_normal : (g : Setting) (s : State) (budget : ℕ) (f : Polynomial Symbol) (steps : List Step) (end : Polynomial Symbol) → ended (full_run g s Free budget f) ≡ Some (steps, end) → IsNormalForm g s f steps end
ended_normal g s budget f steps end h = by_course (full_run g s Free budget f) refl h
  where
    by_course : (x : Course) → full_run g s Free budget f ≡ x → ended x ≡ Some (steps, end) → IsNormalForm g s f steps end
    by_course (finished done last count) e h =
        let pair : ◌≡◌ {A = List Step × Polynomial Symbol} (done, last) (steps, end) = cc in
        let a : done ≡ steps = ap (λ (x : List Step × Polynomial Symbol). x.0) pair in
        let b : last ≡ end = ap (λ (x : List Step × Polynomial Symbol). x.1) pair in
        let k = full_run_laws g in
        subst (λ x. IsNormalForm g s f x end) a (subst (IsNormalForm g s f done) b (record { count = count; is_run = k.is_run s Free budget f done last count e; at_rest = k.at_rest s Free budget f done last count e }))
    by_course (stopped done stop) e h = cc
    by_course (passed done) e h = cc
