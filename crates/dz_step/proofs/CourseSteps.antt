-- What all steps of a full run have, and that their operators belong to the signature.
use Rattle.std.proofs.Common.{◌≡◌, ◌≤◌, ◌+◌, ◌-◌, ℕ, zero, suc, nat_lt, Bool, true, false, cond, List, [], ◌∷◌, ◌++◌, length, take, refl, ap, sym, subst, Result, Ok, Err, Option, Some, None}
use Rattle.dz_algebra.specs.Norm.{norm}
use Rattle.dz_algebra.specs.Polynomial.{Polynomial}
use Rattle.dz_algebra.specs.Size.{wide, large}
use Rattle.dz_rank.specs.Rankings.{RankingValue}
use Rattle.dz_rank.specs.Symbols.{IsOperatorOf}
use Rattle.dz_rank.specs.declared.symbols.Symbol.{Symbol}
use Rattle.dz_monomials.specs.Lists.{AllOf}
use Rattle.dz_diff.specs.Operations.{Setting, setting_of}
use Rattle.dz_diff.specs.Over.{IsOver}
use Rattle.dz_diff.specs.State.{State}
use Rattle.dz_diff.proofs.OverOperations.{norm_over}
use Rattle.dz_diff.proofs.Places.{all-append, all_parts}
use Rattle.dz_step.specs.declared.Role.{Role}
use Rattle.dz_step.specs.declared.Step.{Step}
use Rattle.dz_step.specs.declared.attempts.Attempt.{Attempt}
use Rattle.dz_step.specs.declared.attempts.AttemptStop.{AttemptStop}
use Rattle.dz_step.specs.declared.attempts.AttemptStop.TheVariants.{Memory, Wide, Large, Spent}
use Rattle.dz_step.specs.Attempts.{IsAttemptOf, ended, steps_taken}
use Rattle.dz_step.specs.Step.{Stop, refused, step_in}
use Rattle.dz_step.specs.StepOperators.{AttemptDerivesAlong, DeriveAlong, StopDerivesAlong, course_steps}
use Rattle.dz_step.specs.FullRun.{Course, finished, stopped, passed, full_run, full_run_from, next_step}
use Rattle.dz_step.proofs.OverSteps.{next_fits, step_over}

-- what the next step of each polynomial on the way has, all steps have
module _ (g : Setting) (s : State) (role : Role) (budget : ℕ) (Fine : Polynomial Symbol → Type 0) (Fits : Step → Type 0) (keeps : (f r : Polynomial Symbol) (st : Step) → Fine f → Fits st → step_in g s role f st ≡ Ok r → Fine r)
    (fits : (f : Polynomial Symbol) (st : Step) → Fine f → next_step g s role f ≡ Some st → Fits st) where
  -- from a polynomial on, after some steps
  fits_from : (rounds : ℕ) (done : List Step) (f : Polynomial Symbol) (count : ℕ) → Fine f → AllOf Fits done → AllOf Fits (course_steps (full_run_from g s role budget rounds done f count))
  fits_from zero done f count fine h = h
  fits_from (suc rounds) done f count fine h = by_step (next_step g s role f) refl (λ st r n fine' h'. fits_from rounds (done ++ st ∷ []) r n fine' h')
    where
      by_test : (b : Bool) (st : Step) (r : Polynomial Symbol) → Fine r → AllOf Fits (done ++ st ∷ []) → ((st : Step) (r : Polynomial Symbol) (n : ℕ) → Fine r → AllOf Fits (done ++ st ∷ []) → AllOf Fits (course_steps (full_run_from g s role budget rounds (done ++ st ∷ []) r n)))
          → AllOf Fits (course_steps (cond b (passed (done ++ st ∷ [])) (full_run_from g s role budget rounds (done ++ st ∷ []) r (count + 1 + length r))))
      by_test true st r fine' k ih = k
      by_test false st r fine' k ih = ih st r (count + 1 + length r) fine' k

      by_answer : (st : Step) (q : Result (Polynomial Symbol) Stop) → step_in g s role f st ≡ q → Fits st → AllOf Fits (done ++ st ∷ []) → ((st : Step) (r : Polynomial Symbol) (n : ℕ) → Fine r → AllOf Fits (done ++ st ∷ []) → AllOf Fits (course_steps (full_run_from g s role budget rounds (done ++ st ∷ []) r n)))
          → AllOf Fits (course_steps (elim q as (λ _. Course) [
            | Err stop ↦ stopped (done ++ st ∷ []) stop
            | Ok r ↦ cond (nat_lt budget (count + 1 + length r)) (passed (done ++ st ∷ [])) (full_run_from g s role budget rounds (done ++ st ∷ []) r (count + 1 + length r))
          ]))
      by_answer st (Err stop) e fit k ih = k
      by_answer st (Ok r) e fit k ih = by_test (nat_lt budget (count + 1 + length r)) st r (keeps f r st fine fit e) k ih

      by_step : (o : Option Step) → next_step g s role f ≡ o → ((st : Step) (r : Polynomial Symbol) (n : ℕ) → Fine r → AllOf Fits (done ++ st ∷ []) → AllOf Fits (course_steps (full_run_from g s role budget rounds (done ++ st ∷ []) r n)))
          → AllOf Fits (course_steps (elim o as (λ _. Course) [
            | None ↦ finished done f count
            | Some st ↦ elim (step_in g s role f st) as (λ _. Course) [
              | Err stop ↦ stopped (done ++ st ∷ []) stop
              | Ok r ↦ cond (nat_lt budget (count + 1 + length r)) (passed (done ++ st ∷ [])) (full_run_from g s role budget rounds (done ++ st ∷ []) r (count + 1 + length r))
            ]
          ]))
      by_step None m ih = h
      by_step (Some st) m ih = let fit = fits f st fine m in by_answer st (step_in g s role f st) refl fit (all-append Fits done (st ∷ []) h (fit, tt)) ih

  -- from the norm of a polynomial on
  pub full_run_has : (f : Polynomial Symbol) → Fine (norm f) → AllOf Fits (course_steps (full_run g s role budget f))
  unfolding full_run
  full_run_has f fine = fits_from (suc budget) [] (norm f) 0 fine tt

-- what all have, the first have
all_taken : (P : Step → Type 0) (n : ℕ) (steps : List Step) → AllOf P steps → AllOf P (take n steps)
all_taken P n [] h = elim n as (λ n. AllOf P (take n [])) [ zero ↦ tt | suc m ↦ tt ]
all_taken P zero (st ∷ steps) h = tt
all_taken P (suc n) (st ∷ steps) h = (h.0, all_taken P n steps h.1)

-- ---- over a ranking
module _ (r : RankingValue) (few : r.signature.independents ≤ 4) (s : State) (role : Role) (budget : ℕ) (f : Polynomial Symbol) (over : AllOf (IsOver r) s.equations) (of_f : IsOver r f) where
  abbrev Derive : List Step → Type 0
  Derive = DeriveAlong r.signature.independents

  abbrev course : Course
  course = full_run (setting_of r) s role budget f

  -- the operators of all its steps belong to the signature
  pub course_derives : Derive (course_steps course)
  course_derives = full_run_has (setting_of r) s role budget (IsOver r) (λ (st : Step). IsOperatorOf r.signature.independents st.operator) (λ f x st h fit e. step_over r few s role f x st over h e) (λ f st h e. next_fits r few s role f st over h.belongs e) f (norm_over r few f of_f)

  -- where it comes to its end
  pub ended_derives : (steps : List Step) (end : Polynomial Symbol) → ended course ≡ Some (steps, end) → Derive steps
  ended_derives steps end e = by_course course e course_derives
    where
      by_course : (c : Course) → ended c ≡ Some (steps, end) → Derive (course_steps c) → Derive steps
      by_course (finished taken x n) e h = let k : (taken, x) ≡ (steps, end) = cc in subst Derive (ap (λ (y : List Step × Polynomial Symbol). y.0) k) h
      by_course (stopped taken stop) e h = cc
      by_course (passed taken) e h = cc

  -- where it stops before, with the step at which it does
  pub attempt_derives : (a : Attempt) → IsAttemptOf course a.run a.stop → AttemptDerivesAlong r.signature.independents a
  attempt_derives a h = let k = by_stop a.run a.stop h in record { run = k.0; stop = k.1 }
    where
      before : (c : Course) → Derive (course_steps c) → Derive (steps_taken c)
      before (finished steps end n) k = k
      before (stopped steps stop) k = all_taken (λ (st : Step). IsOperatorOf r.signature.independents st.operator) (length steps - 1) steps k
      before (passed steps) k = all_taken (λ (st : Step). IsOperatorOf r.signature.independents st.operator) (length steps - 1) steps k

      split : (run : List Step) (more : List Step) → Derive (run ++ more) → Derive run × Derive more
      split run more k = all_parts (λ (st : Step). IsOperatorOf r.signature.independents st.operator) run more k

      at_last : (run : List Step) (st : Step) (c : Course) → course ≡ c → course_steps c ≡ run ++ st ∷ [] → Derive run × IsOperatorOf r.signature.independents st.operator
      at_last run st c e same = let k = split run (st ∷ []) (subst Derive same (subst (λ c. Derive (course_steps c)) e course_derives)) in (k.0, k.1.0)

      by_stop : (run : List Step) (stop : AttemptStop) → IsAttemptOf course run stop → Derive run × StopDerivesAlong r.signature.independents stop
      by_stop run Memory h = ((split run h.0 (subst Derive (sym h.1) (before course course_derives))).0, tt)
      by_stop run (Wide st) h = at_last run st (stopped (run ++ st ∷ []) (refused wide)) h refl
      by_stop run (Large limit st) h = at_last run st (stopped (run ++ st ∷ []) (refused (large limit))) h refl
      by_stop run (Spent st) h = at_last run st (passed (run ++ st ∷ [])) h refl
