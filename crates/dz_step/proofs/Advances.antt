-- How a full run that has come so far goes on.
use Rattle.std.proofs.Common.{◌≡◌, ◌≤◌, ◌+◌, ◌-◌, ◌++◌, ◌∙◌, ℕ, zero, suc, List, [], ◌∷◌, length, refl, sym, ap, ap₂, subst, arith}
use Rattle.dz_algebra.specs.Norm.{norm}
use Rattle.dz_algebra.specs.Polynomial.{Polynomial}
use Rattle.dz_algebra.specs.Size.{wide, large}
use Rattle.dz_rank.specs.Rankings.{RankingValue}
use Rattle.dz_rank.specs.declared.symbols.Symbol.{Symbol}
use Rattle.dz_terms.specs.Entries.{EntryValue}
use Rattle.dz_diff.specs.Operations.{setting_of}
use Rattle.dz_diff.specs.State.{State}
use Rattle.dz_step.specs.declared.Role.{Role}
use Rattle.dz_step.specs.declared.Step.{Step}
use Rattle.dz_step.specs.declared.attempts.AttemptStop.{AttemptStop}
use Rattle.dz_step.specs.declared.attempts.AttemptStop.TheVariants.{Memory, Wide, Large, Spent}
use Rattle.dz_step.specs.declared.attempts.Progress.{Progress}
use Rattle.dz_step.specs.declared.attempts.Turn.TheVariants.{Taken, Stopped}
use Rattle.dz_step.specs.Attempts.{IsAttemptOf, IsPrefix, steps_taken}
use Rattle.dz_step.specs.FullRun.{passed, full_run, full_run_from}
use Rattle.dz_step.specs.Step.{refused}
use Rattle.dz_step.specs.Turns.{IsAt, IsTurn}
use Rattle.dz_step.proofs.Courses.{so_far}
use Rattle.dz_step.proofs.FullCourses.{goes_on, refused_at, spent_at}

module _ (r : RankingValue) (s : State) (role : Role) (budget : ℕ) (f : Polynomial Symbol) (p : Progress) where
  -- its steps so far are the first of those that the full run takes
  pub cut_short : IsAt r s role budget f p → (run : List Step) → run ≡ p.run → IsPrefix run (steps_taken (full_run (setting_of r) s role budget f))
  cut_short at run e =
      subst (λ l. IsPrefix l (steps_taken (full_run (setting_of r) s role budget f))) (sym e)
      (subst (λ c. IsPrefix p.run (steps_taken c)) (sym at.3) (so_far (setting_of r) s role budget (suc at.0) p.run p.rest.terms (budget - p.left) (omega arith) (omega (arith, at.1, at.2))))

  -- a turn that stops it
  pub stops : IsAt r s role budget f p → (stop : AttemptStop) → IsTurn r s role p.rest.terms (Stopped stop) → IsAttemptOf (full_run (setting_of r) s role budget f) p.run stop
  stops at Memory t = cut_short at p.run refl
  stops at (Wide step) t = at.3 ∙ refused_at (setting_of r) s role budget p.run p.rest.terms (budget - p.left) at.0 step (refused wide) t.0 t.1
  stops at (Large limit step) t = at.3 ∙ refused_at (setting_of r) s role budget p.run p.rest.terms (budget - p.left) at.0 step (refused (large limit)) t.0 t.1
  stops at (Spent step) t = absurd t

  -- a step that passes what is left
  pub spends : IsAt r s role budget f p → (step : Step) (x : EntryValue) → IsTurn r s role p.rest.terms (Taken step x) → p.left ≤ length x.terms → full_run (setting_of r) s role budget f ≡ passed (p.run ++ step ∷ [])
  spends at step x t l = at.3 ∙ spent_at (setting_of r) s role budget p.run p.rest.terms (budget - p.left) at.0 step x.terms t.0 t.1 (omega (arith, l, at.2))

  -- a turn that takes a step
  pub moved : IsAt r s role budget f p → (step : Step) (x : EntryValue) (new : Progress) → IsTurn r s role p.rest.terms (Taken step x) → new.run ≡ p.run ++ step ∷ [] → new.rest ≡ x → new.left + 1 + length x.terms ≡ p.left
      → IsAt r s role budget f new
  moved at step x new t e h m = by_rounds at.0 at.1 at.3
    where
      by_rounds : (k : ℕ) → p.left ≤ k → full_run (setting_of r) s role budget f ≡ full_run_from (setting_of r) s role budget (suc k) p.run p.rest.terms (budget - p.left) → IsAt r s role budget f new
      by_rounds zero l g = absurd (omega (arith, l, m))
      by_rounds (suc k) l g =
          let low : budget - p.left + 1 + length x.terms ≤ budget = omega (arith, m, at.2) in
          let count : budget - p.left + 1 + length x.terms ≡ budget - new.left = omega (arith, at.2, m) in
          (k, omega (arith, l, m), omega (arith, at.2, m), g ∙ goes_on (setting_of r) s role budget p.run p.rest.terms (budget - p.left) (suc k) step x.terms t.0 t.1 low ∙ ap₂ (λ (l : List Step) (c : ℕ). full_run_from (setting_of r) s role budget (suc k) l x.terms c) (sym e) count ∙ ap (λ (y : EntryValue). full_run_from (setting_of r) s role budget (suc k) new.run y.terms (budget - new.left)) (sym h))

-- ---- the beginning
-- a full run begins with the norm, and with all of its budget
pub begins : (r : RankingValue) (s : State) (role : Role) (budget : ℕ) (f : Polynomial Symbol) (x : EntryValue) (run : List Step) → x.terms ≡ norm f → run ≡ [] → IsAt r s role budget f (record { run = run; rest = x; left = budget })
unfolding full_run
begins r s role budget f x run e g =
    let none : 0 ≡ budget - budget = omega arith in (
      budget,
      omega arith,
      omega arith,
      ap₂ (λ (l : List Step) (p : Polynomial Symbol). full_run_from (setting_of r) s role budget (suc budget) l p 0) (sym g) (sym e)
          ∙ ap (full_run_from (setting_of r) s role budget (suc budget) run x.terms) none,
    )

-- and it is at least no steps
pub no_steps : (r : RankingValue) (s : State) (role : Role) (budget : ℕ) (f : Polynomial Symbol) (run : List Step) (stop : AttemptStop) → run ≡ [] → stop ≡ Memory → IsAttemptOf (full_run (setting_of r) s role budget f) run stop
no_steps r s role budget f run stop e g =
    subst (λ x. IsAttemptOf (full_run (setting_of r) s role budget f) run x) (sym g)
    (subst (λ l. IsPrefix l (steps_taken (full_run (setting_of r) s role budget f))) (sym e) (steps_taken (full_run (setting_of r) s role budget f), refl))
