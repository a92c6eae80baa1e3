-- Reports on questions: lines, and how they end (this project).
use Rattle.std.specs.Prelude.{ℕ, suc, List, [], ◌∷◌, ◌++◌, codes}
use Rattle.dz_algebra.specs.Polynomial.{Polynomial}
use Rattle.dz_algebra.specs.Size.{wide, large}
use Rattle.dz_rank.specs.declared.symbols.Symbol.{Symbol}
use Rattle.dz_diff.specs.State.{State}
use Rattle.dz_form.specs.Texts.{polynomial_text}
use Rattle.dz_step.specs.Step.{Stop, refused, no_step}
use Rattle.dz_syntax.specs.Names.{Declared}
use Rattle.dz_cert.specs.Documents.{numbered}
use Rattle.dz_cert.specs.LineTexts.{spaced}
use Rattle.dz_form.specs.Limits.{limit_word}
use Rattle.dz_report.specs.declared.ending.ReportEnd.{ReportEnd}
use Rattle.dz_report.specs.declared.ending.ReportEnd.TheVariants.{Done, Wide, Large, Spent}

-- lines without their line feeds, and how they end
pub record Report : Type 0 where
  pub lines : List (List ℕ)
  pub ending : ReportEnd

-- lines with which a report goes on
abbrev pub told : List (List ℕ) → Report
told lines = record { lines = lines; ending = Done }

-- lines, and what follows them, unless they end with a stop
abbrev pub followed : List (List ℕ) → ReportEnd → Report → Report
followed lines Done next = record { lines = lines ++ next.lines; ending = next.ending }
followed lines stop next = record { lines = lines; ending = stop }

infixr 10 ◌then◌
-- one report behind another: a stop ends everything
abbrev pub ◌then◌ : Report → Report → Report
first then next = followed first.lines first.ending next

-- the reports on the elements of a list, each with its number, of which the first is given
abbrev pub reports_from : {A : Type 0} → (ℕ → A → Report) → ℕ → List A → Report
reports_from report k [] = told []
reports_from report k (x ∷ xs) = report k x then reports_from report (suc k) xs

-- ---- stops
-- the line of a stop: the words of why, and of where
abbrev pub stopped_line : List (List ℕ) → List (List ℕ) → List ℕ
stopped_line why place = spaced (codes "stopped" ∷ why ++ place)

-- the report where a step has no result; that it is none is told by nothing, and never comes of a step that is next
abbrev pub refused_report : Stop → List (List ℕ) → Report
refused_report (refused wide) place = record { lines = stopped_line (codes "wide" ∷ []) place ∷ []; ending = Wide }
refused_report (refused (large limit)) place = record { lines = stopped_line (codes "large" ∷ limit_word limit ∷ []) place ∷ []; ending = Large }
refused_report no_step place = told []

-- the report where a step passes the budget
abbrev pub spent_report : List (List ℕ) → Report
spent_report place = record { lines = stopped_line (codes "spent" ∷ []) place ∷ []; ending = Spent }

-- ---- questions and chains
-- the line of the question with a number
abbrev pub question_line : Declared → ℕ → Polynomial Symbol → List ℕ
question_line names i f = numbered (codes "question") i ++ codes " " ++ polynomial_text names f

-- what is told by each chain, behind its number
abbrev pub by_chains : (State → Report) → List State → Report
by_chains report chains = reports_from (λ k s. told (numbered (codes "chain") k ∷ []) then report s) 1 chains

-- what is told of each question, behind its number and its text
abbrev pub by_questions : Declared → (Polynomial Symbol → Report) → List (Polynomial Symbol) → Report
by_questions names report fs = reports_from (λ i f. told (question_line names i f ∷ []) then report f) 1 fs

-- a report with the line behind it, also behind a stop
abbrev pub with_end : Report → Report
with_end report = record { lines = report.lines ++ codes "end" ∷ []; ending = report.ending }
