-- The report of full runs on questions (this project).
use Rattle.std.specs.Prelude.{ℕ, ◌-◌, Bool, false, cond, length, take, drop, List, [], ◌∷◌, ◌++◌, codes, Option, Some, None}
use Rattle.std.specs.List.{list_all}
use Rattle.dz_algebra.specs.Polynomial.{Polynomial}
use Rattle.dz_rank.specs.declared.symbols.Symbol.{Symbol}
use Rattle.dz_diff.specs.Operations.{Setting}
use Rattle.dz_diff.specs.State.{State}
use Rattle.dz_diff.specs.Tests.{is_zero}
use Rattle.dz_form.specs.Texts.{polynomial_text}
use Rattle.dz_step.specs.Attempts.{ended}
use Rattle.dz_step.specs.FullRun.{Course, finished, stopped, passed, full_run}
use Rattle.dz_step.specs.declared.Role.TheVariants.{Free}
use Rattle.dz_step.specs.declared.Step.{Step}
use Rattle.dz_syntax.specs.Names.{Declared}
use Rattle.dz_cert.specs.LineTexts.{spaced, step_words}
use Rattle.dz_report.specs.Reports.{Report, ◌then◌, told, by_chains, by_questions, with_end, refused_report, spent_report}

-- ---- one run
-- the line of the steps of a run
abbrev pub run_line : Declared → List Step → List ℕ
run_line names steps = spaced (codes "run" ∷ step_words names steps)

-- the line of its end
abbrev pub remainder_line : Declared → Polynomial Symbol → List ℕ
remainder_line names end = codes "remainder " ++ polynomial_text names end

-- the run up to its last step, and how it stops there
abbrev pub stopped_run : Declared → List Step → (List (List ℕ) → Report) → Report
stopped_run names steps report = told (run_line names (take (length steps - 1) steps) ∷ []) then report (step_words names (drop (length steps - 1) steps))

-- a run with its end, or with the step at which it stops
abbrev pub run_report : Declared → Course → Report
run_report names (finished steps end count) = told (run_line names steps ∷ remainder_line names end ∷ [])
run_report names (stopped steps stop) = stopped_run names steps (refused_report stop)
run_report names (passed steps) = stopped_run names steps spent_report

-- ---- vanishing
-- a run comes to its end, and that is zero
abbrev pub ends_at_zero : Option (List Step × Polynomial Symbol) → Bool
ends_at_zero None = false
ends_at_zero (Some x) = is_zero x.1

-- the full free run on f by a chain does
abbrev pub runs_to_zero : Setting → ℕ → Polynomial Symbol → State → Bool
runs_to_zero g budget f s = ends_at_zero (ended (full_run g s Free budget f))

-- that of each chain does
abbrev pub all_run_to_zero : Setting → ℕ → Polynomial Symbol → List State → Bool
all_run_to_zero g budget f chains = list_all (runs_to_zero g budget f) chains

-- the line that tells whether they do
abbrev pub vanishing_line : Bool → List ℕ
vanishing_line zero = cond zero (codes "vanishing yes") (codes "vanishing unknown")

-- ---- all runs
-- the runs on a question by chains, each with the budget by itself, and whether all of them end at zero
unfoldable pub question_report : Setting → Declared → ℕ → List State → Polynomial Symbol → Report
question_report g names budget chains f =
    by_chains (λ s. run_report names (full_run g s Free budget f)) chains then told (vanishing_line (all_run_to_zero g budget f chains) ∷ [])

-- the report of the runs on questions by chains
unfoldable pub reduction_report : Setting → Declared → ℕ → List (Polynomial Symbol) → List State → Report
reduction_report g names budget questions chains = with_end (by_questions names (question_report g names budget chains) questions)
