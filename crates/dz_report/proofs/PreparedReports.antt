-- The reports of single preparations.
use Rattle.std.proofs.Common.{◌≡◌, ◌≢◌, inl, inr, ℕ, List, [], ◌∷◌, ◌++◌, map, Some, Option, sym, ap, ◌∙◌, subst, append_assoc, append-nil}
use Rattle.std.specs.Prelude.{codes}
use Rattle.dz_algebra.specs.Size.{wide, large}
use Rattle.dz_poly.specs.Books.{BookValue}
use Rattle.dz_diff.specs.Operations.{Setting}
use Rattle.dz_diff.specs.State.{State}
use Rattle.dz_form.specs.Texts.{polynomial_text}
use Rattle.dz_step.specs.Step.{refused}
use Rattle.dz_step.specs.declared.Step.{Step}
use Rattle.dz_step.specs.declared.attempts.AttemptStop.{AttemptStop}
use Rattle.dz_step.specs.declared.attempts.AttemptStop.TheVariants as stops
use Rattle.dz_ask.specs.Attempts.{IsPreparationAttempt, IsStopOf, IsStoppedIn, Names, power_in, prepared_in}
use Rattle.dz_ask.specs.Preparation.{Prepared, Term}
use Rattle.dz_ask.specs.Products.{Product}
use Rattle.dz_ask.specs.Turns.{Course, Turn, next_turn}
use Rattle.dz_ask.specs.declared.preparing.PrepareAttempt.{PrepareAttempt}
use Rattle.dz_cert.specs.Documents.{ended_lines}
use Rattle.dz_cert.specs.LineTexts.{behind_blanks, step_text}
use Rattle.dz_syntax.specs.Names.{Declared}
use Rattle.dz_report.specs.Preparations.{prepared_lines, product_words, term_line, turn_words, turns_report}
use Rattle.dz_report.specs.Reports.{◌then◌, told, refused_report, spent_report}
use Rattle.dz_report.specs.Writing.{IsReported, stop_report}
use Rattle.dz_report.specs.declared.ending.ReportEnd.{ReportEnd}
use Rattle.dz_report.specs.declared.ending.ReportEnd.TheVariants.{Done}
use Rattle.dz_report.proofs.Reported.{behind_blanks-append, line_written, reported_then}

-- turns that stop
by_stop : (g : Setting) (s : State) (names : Declared) (course : Course) (x : Prepared) (stop : AttemptStop) (turn : Turn) → IsStopOf course x stop → Names stop turn.step → next_turn g s x.terms ≡ Some turn
    → turns_report g s names course ≡ told (prepared_lines names x) then stop_report stop (turn_words names (Some turn))
by_stop g s names course x stops.Memory turn is n next = absurd is
by_stop g s names course x (stops.Wide st) turn is n next =
    ap (turns_report g s names) is ∙ ap (λ (o : Option Turn). told (prepared_lines names x) then refused_report (refused wide) (turn_words names o)) next
by_stop g s names course x (stops.Large limit st) turn is n next =
    ap (turns_report g s names) is ∙ ap (λ (o : Option Turn). told (prepared_lines names x) then refused_report (refused (large limit)) (turn_words names o)) next
by_stop g s names course x (stops.Spent st) turn is n next =
    ap (turns_report g s names) is ∙ ap (λ (o : Option Turn). told (prepared_lines names x) then spent_report (turn_words names o)) next

-- a preparation that stops is reported as its course
stopped_report : (g : Setting) (s : State) (names : Declared) (book : BookValue) (course : Course) (a : PrepareAttempt) (h : IsStoppedIn g s book course a)
    → turns_report g s names course ≡ told (prepared_lines names (prepared_in book a.partial)) then stop_report a.stop (product_words names (map power_in a.product.items) ++ codes "by" ∷ step_text names h.turn.step ∷ [])
stopped_report g s names book course a h =
    by_stop g s names course (prepared_in book a.partial) a.stop h.turn h.stops h.names h.next
    ∙ ap (λ (m : Product). told (prepared_lines names (prepared_in book a.partial)) then stop_report a.stop (product_words names m ++ codes "by" ∷ step_text names h.turn.step ∷ [])) (sym h.product)

-- the identity so far, and the line of its stop
pub attempt_reported : (g : Setting) (s : State) (names : Declared) (book : BookValue) (course : Course) (a : PrepareAttempt) (before now after : List ℕ) (end : ReportEnd)
    → IsReported before now Done (told (prepared_lines names (prepared_in book a.partial))) → a.stop ≢ stops.Memory
    → ((st : Step) → Names a.stop st → IsReported now after end (stop_report a.stop (product_words names (map power_in a.product.items) ++ codes "by" ∷ step_text names st ∷ [])))
    → IsPreparationAttempt g s book course a → IsReported before after end (turns_report g s names course)
attempt_reported g s names book course a before now after end first named stop (inl w) = absurd (named w.stop)
attempt_reported g s names book course a before now after end first named stop (inr h) =
    subst (λ r. IsReported before after end r) (sym (stopped_report g s names book course a h))
    (reported_then before now after end (told (prepared_lines names (prepared_in book a.partial))) (stop_report a.stop (product_words names (map power_in a.product.items) ++ codes "by" ∷ step_text names h.turn.step ∷ [])) first (stop h.turn.step h.names))

-- ---- what is appended
-- the line of a term
pub term_written : (names : Declared) (t : Term) (now word placed times text after : List ℕ) → word ≡ now ++ codes "term" → placed ≡ word ++ behind_blanks (product_words names t.0) → times ≡ placed ++ codes " times "
    → text ≡ times ++ polynomial_text names t.1 → after ≡ text ++ codes "\n" → after ≡ now ++ ended_lines (term_line names t ∷ [])
term_written names t now word placed times text after is_word is_placed is_times is_text is_after =
    let ws = product_words names t.0 in
    let poly = polynomial_text names t.1 in
    line_written (codes "term") ws (codes "times" ∷ poly ∷ []) now placed text after
    (is_placed ∙ ap (λ (x : List ℕ). x ++ behind_blanks ws) is_word ∙ append_assoc now (codes "term") (behind_blanks ws))
    (is_text ∙ ap (λ (x : List ℕ). x ++ poly) is_times ∙ append_assoc placed (codes " times ") poly ∙ ap (λ (x : List ℕ). placed ++ (codes " times " ++ x)) (sym (append-nil poly)))
    is_after

-- the words of where a turn is
pub place_written : (ws : List (List ℕ)) (step said placed by after : List ℕ) → placed ≡ said ++ behind_blanks ws → by ≡ placed ++ codes " by" → after ≡ by ++ behind_blanks (step ∷ []) → after ≡ said ++ behind_blanks (ws ++ codes "by" ∷ step ∷ [])
place_written ws step said placed by after is_placed is_by is_after =
    is_after ∙ ap (λ (x : List ℕ). x ++ behind_blanks (step ∷ [])) is_by ∙ append_assoc placed (codes " by") (behind_blanks (step ∷ []))
    ∙ ap (λ (x : List ℕ). x ++ behind_blanks (codes "by" ∷ step ∷ [])) is_placed ∙ append_assoc said (behind_blanks ws) (behind_blanks (codes "by" ∷ step ∷ []))
    ∙ ap (λ (x : List ℕ). said ++ x) (sym (behind_blanks-append ws (codes "by" ∷ step ∷ [])))

-- a stop names one step
pub one_step : (stop : AttemptStop) (st other : Step) → Names stop st → Names stop other → st ≡ other
one_step stops.Memory st other m n = absurd m
one_step (stops.Wide step) st other m n = sym m ∙ n
one_step (stops.Large limit step) st other m n = sym m ∙ n
one_step (stops.Spent step) st other m n = sym m ∙ n
