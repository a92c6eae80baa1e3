-- The reports of runs.
use Rattle.std.proofs.Common.{◌≡◌, ◌≢◌, ◌≤◌, ℕ, ◌+◌, ◌-◌, Bool, ◌&&◌, List, [], ◌∷◌, ◌++◌, length, drop, map, Some, sym, ap, subst, ◌∙◌, arith, slice_get}
use Rattle.std.specs.Prelude.{codes}
use Rattle.std.specs.List.{list_all}
use Rattle.std.proofs.Math.Bool.{and_assoc, and-true}
use Rattle.std.proofs.Math.ListN.{drop_of_length-le}
use Rattle.std.proofs.Math.Seq.{drop-append_seam}
use Rattle.std.proofs.lemmas.List.{length-append}
use Rattle.dz_algebra.specs.Polynomial.{Polynomial}
use Rattle.dz_algebra.specs.Size.{wide, large}
use Rattle.dz_rank.specs.declared.symbols.Symbol.{Symbol}
use Rattle.dz_ask.specs.Attempts.{Names}
use Rattle.dz_step.specs.Attempts.{IsAttemptOf, ended}
use Rattle.dz_step.specs.FullRun.{Course, finished, stopped, passed}
use Rattle.dz_step.specs.Step.{refused}
use Rattle.dz_step.specs.declared.Step.{Step}
use Rattle.dz_step.specs.declared.attempts.AttemptStop.{AttemptStop}
use Rattle.dz_step.specs.declared.attempts.AttemptStop.TheVariants as stops
use Rattle.dz_step.proofs.Courses.{take-push}
use Rattle.dz_syntax.specs.Names.{Declared}
use Rattle.dz_cert.specs.Documents.{ended_lines}
use Rattle.dz_cert.specs.LineTexts.{behind_blanks, spaced, step_text, step_words}
use Rattle.dz_cert.proofs.WrittenSteps.{drop_at}
use Rattle.dz_report.specs.Reports.{Report, ◌then◌, told, refused_report, spent_report}
use Rattle.dz_report.specs.Reductions.{remainder_line, run_line, run_report, stopped_run, vanishing_line}
use Rattle.dz_report.specs.Writing.{IsReduced, IsReported, stop_report, why_end, why_words}
use Rattle.dz_report.specs.declared.ending.ReportEnd.{ReportEnd}
use Rattle.dz_report.specs.declared.ending.ReportEnd.TheVariants.{Done}
use Rattle.dz_report.specs.declared.reducing.Reduced.{Reduced}
use Rattle.dz_report.proofs.Reported.{reported_lines, reported_stop, reported_then, stop_reported}

-- the last step of a list with a last step
drop-push : (steps : List Step) (st : Step) → drop (length (steps ++ st ∷ []) - 1) (steps ++ st ∷ []) ≡ st ∷ []
drop-push steps st =
    let n : length (steps ++ st ∷ []) - 1 ≡ length steps = omega (arith, length-append steps (st ∷ [])) in
    ap (λ n. drop n (steps ++ st ∷ [])) n ∙ drop-append_seam steps (st ∷ [])

-- a run that stops at its last step
stopped_push : (names : Declared) (run : List Step) (st : Step) (report : List (List ℕ) → Report) → stopped_run names (run ++ st ∷ []) report ≡ told (run_line names run ∷ []) then report (step_words names (st ∷ []))
stopped_push names run st report =
    ap (λ (steps : List Step). told (run_line names steps ∷ []) then report (step_words names (drop (length (run ++ st ∷ []) - 1) (run ++ st ∷ [])))) (take-push run st)
    ∙ ap (λ (steps : List Step). told (run_line names run ∷ []) then report (step_words names steps)) (drop-push run st)

-- an attempt is reported as its course
pub attempt_report : (names : Declared) (course : Course) (run : List Step) (stop : AttemptStop) (st : Step) → IsAttemptOf course run stop → Names stop st
    → run_report names course ≡ told (run_line names run ∷ []) then stop_report stop (step_words names (st ∷ []))
attempt_report names course run stops.Memory st is n = absurd n
attempt_report names course run (stops.Wide step) st is n =
    ap (run_report names) is ∙ stopped_push names run step (refused_report (refused wide)) ∙ ap (λ (s : Step). told (run_line names run ∷ []) then refused_report (refused wide) (step_words names (s ∷ []))) n
attempt_report names course run (stops.Large limit step) st is n =
    ap (run_report names) is ∙ stopped_push names run step (refused_report (refused (large limit)))
    ∙ ap (λ (s : Step). told (run_line names run ∷ []) then refused_report (refused (large limit)) (step_words names (s ∷ []))) n
attempt_report names course run (stops.Spent step) st is n =
    ap (run_report names) is ∙ stopped_push names run step spent_report ∙ ap (λ (s : Step). told (run_line names run ∷ []) then spent_report (step_words names (s ∷ []))) n

-- a run that comes to its end
pub ended_report : (names : Declared) (course : Course) (run : List Step) (end : Polynomial Symbol) → ended course ≡ Some (run, end) → run_report names course ≡ told (run_line names run ∷ remainder_line names end ∷ [])
ended_report names (finished steps p count) run end e =
    let same : (steps, p) ≡ (run, end) = cc in
    ap (λ (x : List Step × Polynomial Symbol). told (run_line names x.0 ∷ remainder_line names x.1 ∷ [])) same
ended_report names (stopped steps stop) run end e = absurd cc
ended_report names (passed steps) run end e = absurd cc

-- ---- what is appended
-- the lines of a run that stops
pub attempt_reported : (names : Declared) (course : Course) (run : List Step) (stop : AttemptStop) (st : Step) (before now said placed after : List ℕ) (end : ReportEnd) → now ≡ before ++ ended_lines (run_line names run ∷ [])
    → said ≡ now ++ spaced (codes "stopped" ∷ why_words stop) → placed ≡ said ++ behind_blanks (step_text names st ∷ []) → after ≡ placed ++ codes "\n" → end ≡ why_end stop → Names stop st → IsAttemptOf course run stop
    → IsReported before after end (run_report names course)
attempt_reported names course run stop st before now said placed after end is_now is_said is_placed is_after is_end named is =
    subst (λ r. IsReported before after end r) (sym (attempt_report names course run stop st is named))
    (reported_then before now after end (told (run_line names run ∷ [])) (stop_report stop (step_words names (st ∷ []))) (reported_lines before now (run_line names run ∷ []) is_now)
    (stop_reported stop (step_words names (st ∷ [])) now said placed after end is_said is_placed is_after is_end))

-- a report that stops tells nothing of zero
pub stop_reduced : (before after : List ℕ) (end : ReportEnd) (zero all : Bool) (report : Report) → IsReported before after end report → end ≢ Done → IsReduced before after (record { end = end; zero = zero }) report all
stop_reduced before after end zero all report is stops = record { reported = is; zero = λ e. absurd (stops e) }

-- one run more
pub zero_more : {S A : Type 0} (test : A → Bool) (f : S → A) (xs : List S) (k : ℕ) (x : S) (zero here total : Bool) → slice_get xs k ≡ Some x → here ≡ test (f x)
    → (zero && list_all test (map f (drop k xs))) ≡ total → ((zero && here) && list_all test (map f (drop (k + 1) xs))) ≡ total
zero_more {S = S} test f xs k x zero here total e is whole =
    ap (λ b. (zero && b) && list_all test (map f (drop (k + 1) xs))) is ∙ and_assoc zero (test (f x)) (list_all test (map f (drop (k + 1) xs)))
    ∙ sym (ap (λ (ys : List S). zero && list_all test (map f ys)) (drop_at xs k x e)) ∙ whole

-- no run is left
pub no_more : {S A : Type 0} (test : A → Bool) (f : S → A) (xs : List S) (k : ℕ) (zero total : Bool) → length xs ≤ k → (zero && list_all test (map f (drop k xs))) ≡ total → zero ≡ total
no_more {S = S} test f xs k zero total h whole =
    sym (and-true zero) ∙ sym (ap (λ (ys : List S). zero && list_all test (map f ys)) (drop_of_length-le xs h)) ∙ whole

-- the runs on a question, and the line on vanishing behind them
pub question_reported : (before now after : List ℕ) (x : Reduced) (runs : Report) (all : Bool) → IsReduced before now x runs all → x.end ≡ Done → after ≡ now ++ ended_lines (vanishing_line x.zero ∷ [])
    → IsReported before after Done (runs then told (vanishing_line all ∷ []))
question_reported before now after x runs all is done e =
    reported_then before now after Done runs (told (vanishing_line all ∷ [])) (subst (λ (end : ReportEnd). IsReported before now end runs) done is.reported)
    (reported_lines now after (vanishing_line all ∷ []) (e ∙ ap (λ (b : Bool). now ++ ended_lines (vanishing_line b ∷ [])) (is.zero done)))

-- or runs that stop
pub question_stopped : (before after : List ℕ) (x : Reduced) (runs : Report) (all : Bool) → IsReduced before after x runs all → x.end ≢ Done → IsReported before after x.end (runs then told (vanishing_line all ∷ []))
question_stopped before after x runs all is stops = reported_stop before after x.end runs (told (vanishing_line all ∷ [])) is.reported stops
