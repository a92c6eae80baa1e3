-- What runs of `prepare` mean that have a report.
use Rattle.std.proofs.Common.{◌≡◌, ◌≤◌, ◌⊎◌, inl, inr, List, [], ℕ, ap, refl, subst, ◌∙◌}
use Rattle.std.specs.Io.KnownBytes.{Appends}
use Rattle.dz_algebra.specs.Polynomial.{Polynomial}
use Rattle.dz_rank.specs.Rankings.{RankingValue}
use Rattle.dz_rank.specs.declared.symbols.Symbol.{Symbol}
use Rattle.dz_monomials.specs.Lists.{AllOf}
use Rattle.dz_diff.specs.Operations.{setting_of}
use Rattle.dz_diff.specs.Over.{IsOver}
use Rattle.dz_diff.specs.State.{State}
use Rattle.dz_move.specs.Standing.{IsStateOver}
use Rattle.dz_move.proofs.KeepableStates.{keepables_over}
use Rattle.dz_move.proofs.KeptMembers.{all_give}
use Rattle.dz_ask.specs.Laws.{PreparationLaws}
use Rattle.dz_ask.specs.Turns.{Course, finished, stopped, passed, preparation}
use Rattle.dz_ask.proofs.Preparations.{preparation_laws}
use Rattle.dz_report.specs.declared.asked.Asked.TheVariants.{Preparations}
use Rattle.dz_syntax.specs.declared.endings.Form.TheVariants.{Questions}
use Rattle.dz_syntax.proofs.Ranked.{system_ranked}
use Rattle.dz_syntax.proofs.SystemExpressions.{system_expressions}
use Rattle.dz_syntax.proofs.SystemReadings.{system_found}
use Rattle.dz_cert.proofs.ChainEnds.{certified_chains}
use Rattle.dz_words.specs.Words.{IsWritten}
use Rattle.dz_words.specs.declared.verbs.Verb.TheVariants.{Prepare}
use Rattle.dz_words.specs.declared.words.Request.{Request}
use Rattle.dz_words.proofs.Written.{in_range}
use Rattle.dz_run.specs.declared.ending.Ending.{Ending}
use Rattle.dz_run.specs.declared.ending.Ending.TheVariants.{Done}
use Rattle.dz_run.specs.Answer.{Answer}
use Rattle.dz_run.specs.Decomposed.{tree_chains}
use Rattle.dz_run.specs.Headline.{CourseHolds, IsPrepared, IsUnreported}
use Rattle.dz_run.specs.Run.{Input, IsGiven, Output}
use Rattle.dz_run.specs.System.{ranking_of}
use Rattle.dz_run.proofs.Decompositions.{IsAskedAndDone, asked_given, has_tree, tree_of}
use Rattle.dz_run.proofs.DoneAnswers.{IsEarly}
use Rattle.dz_run.proofs.EarlyReports.{asked_early}
use Rattle.dz_run.proofs.ItemsStand.{questions_stand, system_stands}

-- a preparation by a state over a ranking holds as far as it goes
course_holds : (r : RankingValue) (s : State) (f : Polynomial Symbol) → PreparationLaws r s f → (budget : ℕ) → CourseHolds (setting_of r) s f (preparation (setting_of r) s budget f)
course_holds r s f laws budget = by (preparation (setting_of r) s budget f) refl
  where
    by : (course : Course) → preparation (setting_of r) s budget f ≡ course → CourseHolds (setting_of r) s f course
    by (finished x) e = laws.prepares budget x e
    by (stopped x stop) e = laws.stops budget x stop e
    by (passed x) e = laws.passes budget x e

-- what is printed for a text with questions, where there is a report
asked_prepared : (before after : Input) (out out' : Output) (budget : ℕ) → budget ≤ 20000000 → (bytes : List ℕ) (answer : Answer) → IsAskedAndDone Preparations budget before after bytes answer
    → Appends out.written out'.written answer.output → IsPrepared budget before after out.written out'.written
asked_prepared before after out out' budget most bytes answer d printed =
    let a = d.asked in
    let r : RankingValue = ranking_of a.text in
    let h = has_tree Questions bytes a.text budget a.system a.spelled most a.expanded d.reported.0 in
    let few = (system_ranked Questions bytes a.text a.spelled).few_independents in
    let expressions = system_expressions Questions bytes a.text a.spelled in
    let stands = system_stands a.text a.system expressions a.expanded in
    let states = (certified_chains r a.system (tree_of a.text budget a.system) few stands.0 stands.1 h.certified).over in
    let over : AllOf (IsOver r) a.questions = keepables_over r few a.questions (questions_stand a.text a.questions expressions a.asked_are) in
    record {
      bytes = bytes;
      text = a.text;
      system = a.system;
      questions = a.questions;
      tree = tree_of a.text budget a.system;
      read = d.read;
      spelled = system_found Questions bytes a.text a.spelled;
      expanded = a.expanded;
      asked = a.asked_are;
      certified = h.certified;
      complete = h.complete;
      has_budget = refl;
      printed = subst (Appends out.written out'.written) (ap (λ a. a.output) a.is ∙ d.reported.1) printed;
      identities = all_give (IsOver r) (λ f. AllOf (λ s. CourseHolds (setting_of r) s f (preparation (setting_of r) s budget f)) (tree_chains r a.system (tree_of a.text budget a.system)))
          (λ f of_f. all_give (IsStateOver r) (λ s. CourseHolds (setting_of r) s f (preparation (setting_of r) s budget f))
          (λ s is. course_holds r s f (preparation_laws r s f (keepables_over r few s.equations is.stands.equations_keepable) of_f) budget)
          (tree_chains r a.system (tree_of a.text budget a.system)) states) a.questions over;
    }

-- what a run of `prepare` gives that is done
pub given_prepared : (words : List (List ℕ)) (before after : Input) (out out' : Output) (message : List ℕ) (request : Request) → IsWritten words request → request.verb ≡ Prepare
    → IsGiven words before after out out' Done message → IsPrepared request.budget before after out.written out'.written
given_prepared words before after out out' message request written verb given =
    asked_prepared before after out out' request.budget (in_range words request written).budget.1 given.answered.bytes given.answer
    (asked_given Preparations words before after out out' message request written verb given) given.printed

-- and what one gives that stops early
pub given_prepared_early : (words : List (List ℕ)) (before after : Input) (out out' : Output) (ending : Ending) (message : List ℕ) (request : Request) → IsWritten words request → request.verb ≡ Prepare
    → IsGiven words before after out out' ending message → IsEarly ending
    → IsPrepared request.budget before after out.written out'.written ⊎ IsUnreported request.budget before after out.written out'.written
given_prepared_early words before after out out' ending message request written verb given early = elim (asked_early Preparations words before after out out' ending message request written verb given early) [
  | inl a ↦ inl (asked_prepared before after out out' request.budget (in_range words request written).budget.1 given.answered.bytes given.answer a given.printed)
  | inr none ↦ inr none
]
