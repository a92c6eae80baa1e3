-- What is told of questions behind the document of a complete tree.
use Rattle.std.proofs.Common.{◌≡◌, ◌∙◌, ◌++◌, ℕ, List, None, Result, Ok, Err, map, sym, ap, ap₂, subst}
use Rattle.dz_cert.specs.Documents.{ended_lines}
use Rattle.dz_diff.specs.Operations.{setting_of}
use Rattle.dz_diff.specs.State.{State}
use Rattle.dz_diff.specs.States.{LiveAll, StateValue, polynomials, state_in}
use Rattle.dz_diff.specs.Tests.{Polynomials}
use Rattle.dz_diff.proofs.KeptStates.{kept_polynomials, live_on}
use Rattle.dz_poly.specs.Books.{BookValue, IsKept}
use Rattle.dz_rank.specs.Rankings.{RankingValue}
use Rattle.dz_report.specs.Reports.{Report}
use Rattle.dz_syntax.specs.Names.{Declared}
use Rattle.dz_syntax.specs.Systems.{Tree as Text}
use Rattle.dz_move.specs.Root.{System}
use Rattle.dz_move.specs.Systems.{IsSystemIn, SystemValue, system_in, system_limit}
use Rattle.dz_report.specs.declared.asked.Asked.{Asked}
use Rattle.dz_run.specs.declared.ending.Ending.{Ending}
use Rattle.dz_run.specs.declared.ending.Ending.TheVariants.{Done}
use Rattle.dz_run.specs.declared.system.Refused.{Refused}
use Rattle.dz_run.specs.Answer.{Answer, continued, printed, with_expanded, with_questions}
use Rattle.dz_report.specs.Asked.{report_of}
use Rattle.dz_run.specs.Asked.{asked, report_answer, report_ending}
use Rattle.dz_run.specs.Decomposed.{decomposed, worked_chains}
use Rattle.dz_run.specs.System.{GivesSystem, questions_answer, ranking_of, system_answer}

-- a system that is given is that of the answer
pub system_told : (book : BookValue) (s : SystemValue) (r : Result System Refused) → GivesSystem book (Ok s) r → IsSystemIn book s × (r ≡ Ok (system_in book s))
system_told book s (Ok t) given = (given.0, ap (λ (x : System). Ok x) (sym given.1))
system_told book s (Err e) given = absurd given

module _ (old new : BookValue) (kept : IsKept old new) where
  -- it goes on standing in the book, as the same system
  pub system_on : (s : SystemValue) → IsSystemIn old s → IsSystemIn new s × (system_in new s ≡ system_in old s)
  system_on s there =
      let same : system_in new s ≡ system_in old s =
      ap₂ (λ (es : Polynomials) (hs : Polynomials). record { equations = es; inequations = hs }) (kept_polynomials old new kept s.equations there.equations_live) (kept_polynomials old new kept s.inequations there.inequations_live) in (
        record {
          equations_live = live_on old new kept s.equations there.equations_live;
          inequations_live = live_on old new kept s.inequations there.inequations_live;
          within_limits = subst (λ x. system_limit x ≡ None) (sym same) there.within_limits;
        },
        same,
      )

  module _ (what : Asked) (names : Declared) (budget : ℕ) (system : System) (questions : List ℕ) (live : LiveAll old questions) (document : List ℕ) (ending : Ending)
      (answer : printed document ending ≡ decomposed old.ranking names budget system) (done : ending ≡ Done) (chains : List StateValue)
      (states : map (λ s. state_in new s) chains ≡ worked_chains old.ranking budget system) where
    abbrev report : Report
    report = report_of what (setting_of new.ranking) names budget (polynomials new questions) (map (λ s. state_in new s) chains)

    same_report : report ≡ report_of what (setting_of old.ranking) names budget (polynomials old questions) (worked_chains old.ranking budget system)
    same_report =
        ap (λ (r : RankingValue). report_of what (setting_of r) names budget (polynomials new questions) (map (λ s. state_in new s) chains)) kept.ranking
        ∙ ap (λ (qs : Polynomials). report_of what (setting_of old.ranking) names budget qs (map (λ s. state_in new s) chains)) (kept_polynomials old new kept questions live)
        ∙ ap (λ (ss : List State). report_of what (setting_of old.ranking) names budget (polynomials old questions) ss) states

    -- the report is behind the document
    pub questions_are : (text : List ℕ) → text ≡ document ++ ended_lines (report_of what (setting_of new.ranking) names budget (polynomials new questions) (map (λ s. state_in new s) chains)).lines
        → (end : Ending) → end ≡ report_ending (report_of what (setting_of new.ranking) names budget (polynomials new questions) (map (λ s. state_in new s) chains)).ending
        → printed text end ≡ asked what old.ranking names budget system (polynomials old questions)
    unfolding asked
    questions_are text t end e =
        ap₂ printed t e
        ∙ ap (λ (r : Report). continued (printed document Done) (report_answer r)) same_report
        ∙ ap (λ (a : Answer). continued a (report_answer (report_of what (setting_of old.ranking) names budget (polynomials old questions) (worked_chains old.ranking budget system)))) (ap (printed document) (sym done) ∙ answer)

-- an answer to a system and questions of a text is that to the text
pub asked_is : (what : Asked) (text : Text) (budget : ℕ) (system : System) (questions : Polynomials) → system_answer text ≡ Ok system → questions_answer text ≡ Ok questions
    → asked what (ranking_of text) text.names budget system questions ≡ with_questions text (asked what (ranking_of text) text.names budget)
asked_is what text budget system questions s q =
    ap (λ r. with_expanded r (asked what (ranking_of text) text.names budget system)) (sym q)
    ∙ ap (λ r. with_expanded r (λ x. with_expanded (questions_answer text) (asked what (ranking_of text) text.names budget x))) (sym s)
