-- The report of preparations of questions (this project).
use Rattle.std.specs.Prelude.{ℕ, List, [], ◌∷◌, ◌++◌, map, codes, Option, Some, None}
use Rattle.std.specs.Fmt.{decimal}
use Rattle.dz_algebra.specs.Polynomial.{Polynomial}
use Rattle.dz_rank.specs.declared.symbols.Symbol.{Symbol}
use Rattle.dz_diff.specs.Operations.{Setting}
use Rattle.dz_diff.specs.State.{State}
use Rattle.dz_form.specs.Texts.{polynomial_text}
use Rattle.dz_step.specs.declared.Step.{Step}
use Rattle.dz_ask.specs.Preparation.{Prepared, Term}
use Rattle.dz_ask.specs.Products.{Product}
use Rattle.dz_ask.specs.Turns.{Course, Turn, finished, stopped, passed, next_turn, preparation}
use Rattle.dz_syntax.specs.Names.{Declared}
use Rattle.dz_cert.specs.Documents.{member_lines}
use Rattle.dz_cert.specs.LineTexts.{spaced, step_text}
use Rattle.dz_report.specs.Reports.{Report, ◌then◌, told, by_chains, by_questions, with_end, refused_report, spent_report}

-- ---- products
-- a power: its step, and its exponent
abbrev pub power_text : Declared → Step × ℕ → List ℕ
power_text names p = step_text names p.0 ++ codes "^" ++ decimal p.1

-- the words of a product: its powers, or - where it has none
abbrev pub product_words : Declared → Product → List (List ℕ)
product_words names [] = codes "-" ∷ []
product_words names (p ∷ ps) = map (λ q. power_text names q) (p ∷ ps)

-- ---- one preparation
-- the line of a term
abbrev pub term_line : Declared → Term → List ℕ
term_line names t = spaced (codes "term" ∷ product_words names t.0 ++ codes "times" ∷ polynomial_text names t.1 ∷ [])

-- the lines of the factors and the terms
abbrev pub prepared_lines : Declared → Prepared → List (List ℕ)
prepared_lines names x = member_lines (codes "multiplier") (map (λ a. polynomial_text names a) x.factors) ++ map (λ t. term_line names t) x.terms

-- where a turn is: its product, and its step
abbrev pub turn_words : Declared → Option Turn → List (List ℕ)
turn_words names None = []
turn_words names (Some t) = product_words names t.product ++ codes "by" ∷ step_text names t.step ∷ []

-- the identity so far, and how its next turn stops it
abbrev pub stopped_turns : Setting → State → Declared → Prepared → (List (List ℕ) → Report) → Report
stopped_turns g s names x report = told (prepared_lines names x) then report (turn_words names (next_turn g s x.terms))

-- an identity to which the turns by a chain come, or one at whose next turn they stop
abbrev pub turns_report : Setting → State → Declared → Course → Report
turns_report g s names (finished x) = told (prepared_lines names x)
turns_report g s names (stopped x stop) = stopped_turns g s names x (refused_report stop)
turns_report g s names (passed x) = stopped_turns g s names x spent_report

-- ---- all preparations
-- the preparations of a question by chains, each with the budget by itself
unfoldable pub prepared_report : Setting → Declared → ℕ → List State → Polynomial Symbol → Report
prepared_report g names budget chains f = by_chains (λ s. turns_report g s names (preparation g s budget f)) chains

-- the report of the preparations of questions by chains
unfoldable pub preparation_report : Setting → Declared → ℕ → List (Polynomial Symbol) → List State → Report
preparation_report g names budget questions chains = with_end (by_questions names (prepared_report g names budget chains) questions)
