-- What the report of full runs tells of vanishing.
use Rattle.std.proofs.Common.{◌≡◌, ◌≢◌, ◌↔◌, ℕ, suc, Bool, true, false, ◌&&◌, List, [], ◌∷◌, ◌++◌, length, take, drop, ◌-◌, Option, Some, None, refl, sym, ap, ◌∙◌, arith}
use Rattle.std.specs.Prelude.{codes}
use Rattle.std.specs.List.{last_or, list_all}
use Rattle.dz_algebra.specs.Polynomial.{Polynomial}
use Rattle.dz_algebra.specs.Size.{wide, large}
use Rattle.dz_rank.specs.declared.symbols.Symbol.{Symbol}
use Rattle.dz_form.proofs.TextTokens.{both_true}
use Rattle.dz_monomials.specs.Lists.{AllOf}
use Rattle.dz_diff.specs.Operations.{Setting}
use Rattle.dz_diff.specs.State.{State}
use Rattle.dz_step.specs.Attempts.{ended}
use Rattle.dz_step.specs.FullRun.{Course, finished, stopped, passed, full_run}
use Rattle.dz_step.specs.Step.{Stop, refused, no_step}
use Rattle.dz_step.specs.declared.Role.TheVariants.{Free}
use Rattle.dz_step.specs.declared.Step.{Step}
use Rattle.dz_ask.specs.Vanishing.{RunsToZero}
use Rattle.dz_syntax.specs.Names.{Declared}
use Rattle.dz_cert.specs.Documents.{numbered}
use Rattle.dz_cert.specs.LineTexts.{step_words}
use Rattle.dz_form.specs.Limits.{limit_word}
use Rattle.dz_report.specs.Laws.{VanishingLaws}
use Rattle.dz_report.specs.Reductions.{all_run_to_zero, ends_at_zero, question_report, remainder_line, run_line, run_report, runs_to_zero, stopped_run, vanishing_line}
use Rattle.dz_report.specs.Reports.{Report, ◌then◌, by_chains, followed, refused_report, reports_from, spent_report, stopped_line, told}
use Rattle.dz_report.specs.declared.ending.ReportEnd.{ReportEnd}
use Rattle.dz_report.specs.declared.ending.ReportEnd.TheVariants.{Done, Wide, Large, Spent}

-- the line that says yes
abbrev yes : List ℕ
yes = codes "vanishing yes"

-- ---- the line
-- an end that is zero
zero_end : (o : Option (List Step × Polynomial Symbol)) → ends_at_zero o ≡ true → (steps : List Step) × (o ≡ Some (steps, []))
zero_end None e = absurd cc
zero_end (Some (steps, [])) e = (steps, refl)
zero_end (Some (steps, t ∷ p)) e = absurd cc

-- the tests of all chains
tested : (g : Setting) (budget : ℕ) (f : Polynomial Symbol) (chains : List State) → all_run_to_zero g budget f chains ≡ true → AllOf (RunsToZero g budget f) chains
tested g budget f [] e = tt
tested g budget f (s ∷ chains) e =
    let both = both_true (runs_to_zero g budget f s) (all_run_to_zero g budget f chains) e in
    (zero_end (ended (full_run g s Free budget f)) both.0, tested g budget f chains both.1)

pub passed_tests : (g : Setting) (budget : ℕ) (f : Polynomial Symbol) (chains : List State) → AllOf (RunsToZero g budget f) chains → all_run_to_zero g budget f chains ≡ true
passed_tests g budget f [] all = refl
passed_tests g budget f (s ∷ chains) all =
    ap (λ b. b && all_run_to_zero g budget f chains) (ap ends_at_zero all.0.1) ∙ passed_tests g budget f chains all.1

-- the line says yes where all runs end at zero, and not otherwise
says_yes : (b : Bool) → vanishing_line b ≡ yes → b ≡ true
says_yes true e = refl
says_yes false e = absurd cc

pub line_law : (g : Setting) (budget : ℕ) (chains : List State) (f : Polynomial Symbol) → (vanishing_line (all_run_to_zero g budget f chains) ≡ yes) ↔ AllOf (RunsToZero g budget f) chains
line_law g budget chains f = (
  λ e. tested g budget f chains (says_yes (all_run_to_zero g budget f chains) e),
  λ all. ap vanishing_line (passed_tests g budget f chains all),
)

-- ---- the report of a question
-- where a report stops, its last line does not say yes
abbrev StopsOtherwise : Report → Type 0
StopsOtherwise r = r.ending ≢ Done → (o : Option (List ℕ)) → last_or o r.lines ≢ Some yes

-- the last of two lists
last_or-append : {A : Type 0} (o : Option A) (xs ys : List A) → last_or o (xs ++ ys) ≡ last_or (last_or o xs) ys
last_or-append o [] ys = refl
last_or-append o (x ∷ xs) ys = last_or-append (Some x) xs ys

-- so does what follows another report
stops_then : (first next : Report) → StopsOtherwise first → StopsOtherwise next → StopsOtherwise (first then next)
stops_then first next x y = by_end first.ending (λ h. x h)
  where
    by_end : (end : ReportEnd) → (end ≢ Done → (o : Option (List ℕ)) → last_or o first.lines ≢ Some yes) → StopsOtherwise (followed first.lines end next)
    by_end Done z = λ h o e. y h (last_or o first.lines) (sym (last_or-append o first.lines next.lines) ∙ e)
    by_end Wide z = λ h o e. z h o e
    by_end Large z = λ h o e. z h o e
    by_end Spent z = λ h o e. z h o e

-- lines do not stop
stops_told : (lines : List (List ℕ)) → StopsOtherwise (told lines)
stops_told lines = λ h o e. absurd (h refl)

-- the first byte of a line
abbrev first_byte : Option (List ℕ) → ℕ
first_byte None = 0
first_byte (Some []) = 0
first_byte (Some (b ∷ bytes)) = b

-- the line of a stop
stops_line : (why place : List (List ℕ)) → Some (stopped_line why place) ≢ Some yes
stops_line why place e =
    let bytes : first_byte (Some (stopped_line why place)) ≡ first_byte (Some yes) = ap first_byte e in
    let s : first_byte (Some (stopped_line why place)) ≡ 115 = refl in
    let v : first_byte (Some yes) ≡ 118 = refl in
    absurd (omega (arith, bytes, s, v))

stops_refused : (stop : Stop) (place : List (List ℕ)) → StopsOtherwise (refused_report stop place)
stops_refused (refused wide) place = λ h o e. stops_line (codes "wide" ∷ []) place e
stops_refused (refused (large limit)) place = λ h o e. stops_line (codes "large" ∷ limit_word limit ∷ []) place e
stops_refused no_step place = λ h o e. absurd (h refl)

stops_spent : (place : List (List ℕ)) → StopsOtherwise (spent_report place)
stops_spent place = λ h o e. stops_line (codes "spent" ∷ []) place e

stops_last : (names : Declared) (steps : List Step) (report : List (List ℕ) → Report) → ((place : List (List ℕ)) → StopsOtherwise (report place)) → StopsOtherwise (stopped_run names steps report)
stops_last names steps report stops =
    stops_then (told (run_line names (take (length steps - 1) steps) ∷ [])) (report (step_words names (drop (length steps - 1) steps))) (stops_told (run_line names (take (length steps - 1) steps) ∷ [])) (stops (step_words names (drop (length steps - 1) steps)))

stops_run : (names : Declared) (course : Course) → StopsOtherwise (run_report names course)
stops_run names (finished steps end count) = stops_told (run_line names steps ∷ remainder_line names end ∷ [])
stops_run names (stopped steps stop) = stops_last names steps (refused_report stop) (stops_refused stop)
stops_run names (passed steps) = stops_last names steps spent_report stops_spent

-- a run behind the number of its chain
abbrev numbered_run : Declared → (State → Course) → ℕ → State → Report
numbered_run names course k s = told (numbered (codes "chain") k ∷ []) then run_report names (course s)

stops_runs : (names : Declared) (course : State → Course) (k : ℕ) (chains : List State) → StopsOtherwise (reports_from (numbered_run names course) k chains)
stops_runs names course k [] = stops_told []
stops_runs names course k (s ∷ chains) =
    stops_then (numbered_run names course k s) (reports_from (numbered_run names course) (suc k) chains)
    (stops_then (told (numbered (codes "chain") k ∷ [])) (run_report names (course s)) (stops_told (numbered (codes "chain") k ∷ [])) (stops_run names (course s))) (stops_runs names course (suc k) chains)

-- runs that end at zero do not stop
done_run : (names : Declared) (course : Course) → ends_at_zero (ended course) ≡ true → (run_report names course).ending ≡ Done
done_run names (finished steps end count) e = refl
done_run names (stopped steps stop) e = absurd cc
done_run names (passed steps) e = absurd cc

done_then : (first next : Report) → first.ending ≡ Done → next.ending ≡ Done → (first then next).ending ≡ Done
done_then first next x y = ap (λ end. (followed first.lines end next).ending) x ∙ y

done_runs : (names : Declared) (course : State → Course) (k : ℕ) (chains : List State) → list_all (λ s. ends_at_zero (ended (course s))) chains ≡ true
    → (reports_from (numbered_run names course) k chains).ending ≡ Done
done_runs names course k [] e = refl
done_runs names course k (s ∷ chains) e =
    let both = both_true (ends_at_zero (ended (course s))) (list_all (λ s. ends_at_zero (ended (course s))) chains) e in
    done_then (numbered_run names course k s) (reports_from (numbered_run names course) (suc k) chains) (done_then (told (numbered (codes "chain") k ∷ [])) (run_report names (course s)) refl (done_run names (course s) both.0)) (done_runs names course (suc k) chains both.1)

-- a report with a line on vanishing behind it
last_told : (runs : Report) (b : Bool) → StopsOtherwise runs → last_or None (runs then told (vanishing_line b ∷ [])).lines ≡ Some yes → b ≡ true
last_told runs b x = by_end runs.ending (λ h. x h)
  where
    by_end : (end : ReportEnd) → (end ≢ Done → (o : Option (List ℕ)) → last_or o runs.lines ≢ Some yes) → last_or None (followed runs.lines end (told (vanishing_line b ∷ []))).lines ≡ Some yes → b ≡ true
    by_end Done z e =
        let same : Some (vanishing_line b) ≡ Some yes = sym (last_or-append None runs.lines (vanishing_line b ∷ [])) ∙ e in
        let line : vanishing_line b ≡ yes = cc in
        says_yes b line
    by_end Wide z e = absurd (z (λ h. absurd cc) None e)
    by_end Large z e = absurd (z (λ h. absurd cc) None e)
    by_end Spent z e = absurd (z (λ h. absurd cc) None e)

told_last : (runs : Report) → runs.ending ≡ Done → last_or None (runs then told (yes ∷ [])).lines ≡ Some yes
told_last runs e = ap (λ end. last_or None (followed runs.lines end (told (yes ∷ []))).lines) e ∙ last_or-append None runs.lines (yes ∷ [])

pub report_law : (g : Setting) (names : Declared) (budget : ℕ) (chains : List State) (f : Polynomial Symbol) → (last_or None (question_report g names budget chains f).lines ≡ Some yes) ↔ AllOf (RunsToZero g budget f) chains
unfolding question_report
report_law g names budget chains f =
    let course : State → Course = λ s. full_run g s Free budget f in
    let runs = by_chains (λ s. run_report names (course s)) chains in (
      λ e. tested g budget f chains (last_told runs (all_run_to_zero g budget f chains) (stops_runs names course 1 chains) e),
      λ all.
          let zero = passed_tests g budget f chains all in
          ap (λ b. last_or None (runs then told (vanishing_line b ∷ [])).lines) zero ∙ told_last runs (done_runs names course 1 chains zero),
    )

-- both laws
pub vanishing_laws : (g : Setting) (names : Declared) (budget : ℕ) (chains : List State) (f : Polynomial Symbol) → VanishingLaws g names budget chains f
vanishing_laws g names budget chains f = record {
  line = line_law g budget chains f;
  report = report_law g names budget chains f;
}
