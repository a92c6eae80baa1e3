-- What is appended while a report is written. No public clause cites this file.
use Rattle.std.specs.Prelude.{◌≡◌, ℕ, ◌+◌, Bool, List, [], ◌∷◌, ◌++◌, codes}
use Rattle.dz_step.specs.declared.attempts.AttemptStop.{AttemptStop}
use Rattle.dz_step.specs.declared.attempts.AttemptStop.TheVariants as stops
use Rattle.dz_cert.specs.Documents.{ended_lines}
use Rattle.dz_form.specs.Limits.{limit_word}
use Rattle.dz_report.specs.Reports.{Report, reports_from, stopped_line}
use Rattle.dz_report.specs.declared.ending.ReportEnd.{ReportEnd}
use Rattle.dz_report.specs.declared.ending.ReportEnd.TheVariants.{Done, Wide, Large, Spent}
use Rattle.dz_report.specs.declared.reducing.Reduced.{Reduced}

-- a report was appended, and ends so
pub record IsReported (before after : List ℕ) (end : ReportEnd) (report : Report) : Type 0 where
  pub text : after ≡ before ++ ended_lines report.lines
  pub ending : end ≡ report.ending

-- a report of runs was appended, and where it does not stop, it is told whether they end at zero
pub record IsReduced (before after : List ℕ) (x : Reduced) (report : Report) (all_zero : Bool) : Type 0 where
  pub reported : IsReported before after x.end report
  pub zero : x.end ≡ Done → x.zero ≡ all_zero

-- the words of why a run or a preparation stops
abbrev pub why_words : AttemptStop → List (List ℕ)
why_words stops.Memory = []
why_words (stops.Wide step) = codes "wide" ∷ []
why_words (stops.Large limit step) = codes "large" ∷ limit_word limit ∷ []
why_words (stops.Spent step) = codes "spent" ∷ []

-- how a report ends there
abbrev pub why_end : AttemptStop → ReportEnd
why_end stops.Memory = Done
why_end (stops.Wide step) = Wide
why_end (stops.Large limit step) = Large
why_end (stops.Spent step) = Spent

-- the report of a stop at a place
abbrev pub stop_report : AttemptStop → List (List ℕ) → Report
stop_report stop place = record { lines = stopped_line (why_words stop) place ∷ []; ending = why_end stop }

-- what is left of a sequence of reports makes all of it
abbrev pub GoesOn : {A : Type 0} → (ℕ → A → Report) → List ℕ → List ℕ → ℕ → List A → List A → Type 0
GoesOn report before now k rest all =
    (after : List ℕ) (end : ReportEnd) → IsReported now after end (reports_from report (k + 1) rest) → IsReported before after end (reports_from report 1 all)
