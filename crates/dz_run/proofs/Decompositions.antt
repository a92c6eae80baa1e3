-- What runs of `decompose` and `reduce` that are done mean at a point.
use Rattle.std.proofs.Common.{◌≡◌, ◌⊎◌, inl, inr, ◌≤◌, List, [], ◌++◌, ℕ, Bool, true, false, Some, Ok, ap, refl, subst, sym, ◌∙◌}
use Rattle.std.specs.Io.KnownBytes.{Appends}
use Rattle.dz_algebra.specs.Domain.{DomainLaws, Operations}
use Rattle.dz_algebra.specs.Polynomial.{Polynomial}
use Rattle.dz_ask.specs.Vanishing.{RunsToZero}
use Rattle.dz_ask.proofs.NormalEnds.{ended_normal}
use Rattle.dz_cert.specs.Documents.{document_of, ended_lines}
use Rattle.dz_domain.specs.Point.{Coordinates, FitsSignature, IsPoint}
use Rattle.dz_monomials.specs.Lists.{AllOf}
use Rattle.dz_diff.specs.Operations.{setting_of}
use Rattle.dz_diff.specs.Over.{AreOver, IsOver}
use Rattle.dz_diff.specs.State.{State}
use Rattle.dz_diff.specs.Tests.{Polynomials}
use Rattle.dz_check.specs.Certified.{IsCertified}
use Rattle.dz_tree.specs.Chains.{IsChain}
use Rattle.dz_move.specs.Root.{System}
use Rattle.dz_move.specs.Standing.{MayStand}
use Rattle.dz_tree.specs.Trees.{Tree}
use Rattle.dz_check.specs.Walk.{all_chains, ends_in, ends_of}
use Rattle.dz_check.proofs.CertifiedChains.{chains_are}
use Rattle.dz_move.proofs.KeepableStates.{keepables_over}
use Rattle.dz_move.proofs.KeptMembers.{all_give}
use Rattle.dz_rank.specs.Rankings.{RankingValue}
use Rattle.dz_rank.specs.declared.symbols.Symbol.{Symbol}
use Rattle.dz_syntax.specs.declared.endings.Form.{Form}
use Rattle.dz_syntax.specs.declared.endings.Form.TheVariants.{Plain, Questions}
use Rattle.dz_syntax.specs.Systems.{Tree as Text, system_of}
use Rattle.dz_syntax.proofs.Ranked.{system_ranked}
use Rattle.dz_syntax.proofs.SystemExpressions.{system_expressions}
use Rattle.dz_syntax.proofs.SystemReadings.{system_found}
use Rattle.dz_engine.specs.Worked.{IsWorked, worked_tree}
use Rattle.dz_engine.proofs.OrderLaws.{order_laws}
use Rattle.dz_engine.proofs.WorkedTrees.{worked_laws}
use Rattle.dz_words.specs.Words.{IsWritten}
use Rattle.dz_words.specs.declared.verbs.Verb.{Verb}
use Rattle.dz_words.specs.declared.verbs.Verb.TheVariants.{Decompose, Prepare, Reduce}
use Rattle.dz_words.specs.declared.words.Request.{Request}
use Rattle.dz_words.proofs.Written.{in_range, one_asked}
use Rattle.dz_zeros.specs.Runs.{RunsToZero as HasRunToZero}
use Rattle.dz_zeros.specs.Solves.{HasValueZero, Solves}
use Rattle.dz_zeros.proofs.ZeroSetLaws.{zero_sets}
use Rattle.dz_report.specs.declared.asked.Asked.{Asked}
use Rattle.dz_report.specs.declared.asked.Asked.TheVariants.{Preparations, Reductions}
use Rattle.dz_run.specs.declared.ending.Ending.{Ending}
use Rattle.dz_run.specs.declared.ending.Ending.TheVariants.{Done, Rejected, NotWritten, Syntax, Document, Wide, Spent, Large, ReadFault, WriteFault, WriteStuck, NoMemory, Point, TooLong}
use Rattle.dz_run.specs.Answer.{Answer, with_expanded, with_questions}
use Rattle.dz_report.specs.Asked.{report_of}
use Rattle.dz_run.specs.Asked.{asked, report_answer}
use Rattle.dz_run.specs.Decomposed.{decomposed, tree_chains, worked_chains}
use Rattle.dz_run.specs.Ending.{status_of}
use Rattle.dz_run.specs.Headline.{IsDecomposed, IsReduced}
use Rattle.dz_run.specs.Run.{Ends, Input, IsGiven, IsRead, IsTaken, Output}
use Rattle.dz_run.specs.System.{questions_answer, ranking_of, system_answer}
use Rattle.dz_run.specs.Verbs.{answer_to, form_of, has_input, verb_told}
use Rattle.dz_run.proofs.Completeness.{complete_is_done, done_is_complete}
use Rattle.dz_run.proofs.DoneAnswers.{continued_or, done_expanded, told_done}
use Rattle.dz_run.proofs.ItemsStand.{questions_stand, system_stands}

-- ---- the worked tree of a text
-- the worked tree of a system and a budget
abbrev pub tree_of : Text → ℕ → System → Tree
tree_of text budget system = worked_tree (setting_of (ranking_of text)) budget system

-- A text was read and spells a system whose worked tree is complete.
pub record HasTree (text : Text) (budget : ℕ) (system : System) : Type 0 where
  pub over : AreOver (ranking_of text) system.equations system.inequations
  pub certified : IsCertified (setting_of (ranking_of text)) system (tree_of text budget system)
  pub complete : all_chains (ends_in (ends_of (setting_of (ranking_of text)) system (tree_of text budget system))) ≡ true
  pub chains : AllOf (IsChain (setting_of (ranking_of text))) (tree_chains (ranking_of text) system (tree_of text budget system))

-- A text was read and spells a system, whose worked tree is certified.
pub record HasWorked (text : Text) (budget : ℕ) (system : System) : Type 0 where
  pub over : AreOver (ranking_of text) system.equations system.inequations
  pub certified : IsCertified (setting_of (ranking_of text)) system (tree_of text budget system)
  pub chains : AllOf (IsChain (setting_of (ranking_of text))) (tree_chains (ranking_of text) system (tree_of text budget system))

pub has_worked : (form : Form) (bytes : List ℕ) (text : Text) (budget : ℕ) (system : System) → system_of form bytes ≡ Ok text → budget ≤ 20000000 → system_answer text ≡ Ok system → HasWorked text budget system
has_worked form bytes text budget system spelled most expanded =
    let r : RankingValue = ranking_of text in
    let ranked = system_ranked form bytes text spelled in
    let stands = system_stands text system (system_expressions form bytes text spelled) expanded in
    let worked : IsWorked (setting_of r) system (tree_of text budget system) = (order_laws r ranked.few_independents ranked.few_dependents budget most).is_there system stands.0 stands.1 in
    let certified = (worked_laws (setting_of r)).certified system (tree_of text budget system) worked in
    record { over = over_of ranked.few_independents stands.0; certified = certified; chains = chains_are (setting_of r) system (tree_of text budget system) certified }
  where
    over_of : {r : RankingValue} {s : System} → r.signature.independents ≤ 4 → MayStand r s.equations s.inequations → AreOver r s.equations s.inequations
    over_of {r} {s} few h = record { equations_over = keepables_over r few s.equations h.equations_keepable; inequations_over = keepables_over r few s.inequations h.inequations_keepable }

-- the answer of `decompose` is its document where it is done
pub has_tree : (form : Form) (bytes : List ℕ) (text : Text) (budget : ℕ) (system : System) → system_of form bytes ≡ Ok text → budget ≤ 20000000 → system_answer text ≡ Ok system
    → (decomposed (ranking_of text) text.names budget system).ending ≡ Done → HasTree text budget system
unfolding decomposed
has_tree form bytes text budget system spelled most expanded done =
    let worked = has_worked form bytes text budget system spelled most expanded in
    record {
      over = worked.over;
      certified = worked.certified;
      complete = done_is_complete (setting_of (ranking_of text)) system (tree_of text budget system) worked.certified done;
      chains = worked.chains;
    }

-- and where it is not, some end of the tree is open
pub is_open : (text : Text) (budget : ℕ) (system : System) → HasWorked text budget system → ((decomposed (ranking_of text) text.names budget system).ending ≡ Done → ⊥)
    → all_chains (ends_in (ends_of (setting_of (ranking_of text)) system (tree_of text budget system))) ≡ false
unfolding decomposed
is_open text budget system worked rest = by (all_chains (ends_in (ends_of (setting_of (ranking_of text)) system (tree_of text budget system)))) refl
  where
    by : (all : Bool) → all_chains (ends_in (ends_of (setting_of (ranking_of text)) system (tree_of text budget system))) ≡ all → all ≡ false
    by true e = absurd (rest (complete_is_done (setting_of (ranking_of text)) system (tree_of text budget system) worked.certified e))
    by false e = refl

-- what is printed of it
pub document_is : (text : Text) (budget : ℕ) (system : System) → (decomposed (ranking_of text) text.names budget system).output ≡ document_of (setting_of (ranking_of text)) text.names system (tree_of text budget system)
unfolding decomposed
document_is text budget system = refl

-- ---- answers
-- an answer of `decompose` that is done
record IsMade (budget : ℕ) (bytes : List ℕ) (answer : Answer) : Type 0 where
  text : Text
  system : System
  spelled : system_of Plain bytes ≡ Ok text
  expanded : system_answer text ≡ Ok system
  is : answer ≡ decomposed (ranking_of text) text.names budget system

answer_made : (q : Request) → q.verb ≡ Decompose → (bytes : List ℕ) → (answer_to q bytes).ending ≡ Done → IsMade q.budget bytes (answer_to q bytes)
answer_made q verb bytes done =
    let told = told_done q Decompose verb Plain refl bytes done in
    let made = done_expanded (system_answer told.0) (decomposed (ranking_of told.0) told.0.names q.budget) (sym (ap (λ a. a.ending) told.2) ∙ done) in
    record { text = told.0; system = made.0; spelled = told.1; expanded = made.1; is = told.2 ∙ made.2 }

-- the verb that asks this
abbrev pub verb_of : Asked → Verb
verb_of Reductions = Reduce
verb_of Preparations = Prepare

-- it has an input, with questions
pub asks : (what : Asked) → form_of (verb_of what) ≡ Some Questions
asks Reductions = refl
asks Preparations = refl

pub asks_input : (what : Asked) → has_input (verb_of what) ≡ true
asks_input Reductions = refl
asks_input Preparations = refl

-- and its answer is that to the questions
pub asked_told : (what : Asked) (q : Request) (bytes : List ℕ) (text : Text) → verb_told (verb_of what) q bytes text ≡ with_questions text (asked what (ranking_of text) text.names q.budget)
asked_told Reductions q bytes text = refl
asked_told Preparations q bytes text = refl

-- an answer to questions
pub record IsAsked (what : Asked) (budget : ℕ) (bytes : List ℕ) (answer : Answer) : Type 0 where
  pub text : Text
  pub system : System
  pub questions : Polynomials
  pub spelled : system_of Questions bytes ≡ Ok text
  pub expanded : system_answer text ≡ Ok system
  pub asked_are : questions_answer text ≡ Ok questions
  pub is : answer ≡ asked what (ranking_of text) text.names budget system questions

answer_asked : (what : Asked) (q : Request) → q.verb ≡ verb_of what → (bytes : List ℕ) → (answer_to q bytes).ending ≡ Done → IsAsked what q.budget bytes (answer_to q bytes)
answer_asked what q verb bytes done =
    let told = told_done q (verb_of what) verb Questions (asks what) bytes done in
    let text = told.0 in
    let is = told.2 ∙ asked_told what q bytes text in
    let answer = asked what (ranking_of text) text.names q.budget in
    let made = done_expanded (system_answer text) (λ s. with_expanded (questions_answer text) (answer s)) (sym (ap (λ a. a.ending) is) ∙ done) in
    let more = done_expanded (questions_answer text) (answer made.0) (sym (ap (λ a. a.ending) (is ∙ made.2)) ∙ done) in
    record { text = text; system = made.0; questions = more.0; spelled = told.1; expanded = made.1; asked_are = more.1; is = is ∙ made.2 ∙ more.2 }

-- the document of its tree, and the report behind it
abbrev pub document_and_report : Asked → Text → ℕ → System → Polynomials → List ℕ
document_and_report what text budget system questions =
    document_of (setting_of (ranking_of text)) text.names system (tree_of text budget system)
    ++ ended_lines (report_of what (setting_of (ranking_of text)) text.names budget questions (tree_chains (ranking_of text) system (tree_of text budget system))).lines

-- They are its output where the tree is complete; and where it is not, the answer is that of `decompose`.
abbrev pub IsReported : Asked → Text → ℕ → System → Polynomials → Type 0
IsReported what text budget system questions =
    ((decomposed (ranking_of text) text.names budget system).ending ≡ Done)
    × ((asked what (ranking_of text) text.names budget system questions).output ≡ document_and_report what text budget system questions)

pub reported_or_not : (what : Asked) (text : Text) (budget : ℕ) (system : System) (questions : Polynomials)
    → IsReported what text budget system questions
    ⊎ (((decomposed (ranking_of text) text.names budget system).ending ≡ Done → ⊥) × (asked what (ranking_of text) text.names budget system questions ≡ decomposed (ranking_of text) text.names budget system))
unfolding asked worked_chains
reported_or_not what text budget system questions =
    let report = report_answer (report_of what (setting_of (ranking_of text)) text.names budget questions (worked_chains (ranking_of text) budget system)) in
    elim (continued_or (decomposed (ranking_of text) text.names budget system) report) [
      | inl both ↦ inl (both.0, both.1 ∙ ap (λ (x : List ℕ). x ++ report.output) (document_is text budget system))
      | inr first ↦ inr first
    ]

-- so they are where the answer is done
asked_output : (what : Asked) (text : Text) (budget : ℕ) (system : System) (questions : Polynomials) → (asked what (ranking_of text) text.names budget system questions).ending ≡ Done
    → IsReported what text budget system questions
asked_output what text budget system questions done = elim (reported_or_not what text budget system questions) [
  | inl reported ↦ reported
  | inr first ↦ absurd (first.0 (sym (ap (λ a. a.ending) first.1) ∙ done))
]

-- the bytes of an input were read, where the verb has one
pub bytes_read : (verb verb' : Verb) → verb ≡ verb' → has_input verb' ≡ true → (before after : Input) (bytes : List ℕ) → IsTaken (has_input verb) before after bytes → IsRead before after bytes
bytes_read verb verb' v has before after bytes h = subst (λ (b : Bool). IsTaken b before after bytes) (ap has_input v ∙ has) h

-- A run that asks was given an answer that is done: its input was read, and has a report.
pub record IsAskedAndDone (what : Asked) (budget : ℕ) (before after : Input) (bytes : List ℕ) (answer : Answer) : Type 0 where
  pub read : IsRead before after bytes
  pub asked : IsAsked what budget bytes answer
  pub reported : IsReported what asked.text budget asked.system asked.questions

pub asked_given : (what : Asked) (words : List (List ℕ)) (before after : Input) (out out' : Output) (point : List ℕ) (request : Request) → IsWritten words request → request.verb ≡ verb_of what
    → (given : IsGiven words before after out out' Done point) → IsAskedAndDone what request.budget before after given.answered.bytes given.answer
asked_given what words before after out out' point request written verb given =
    let a = given.answered in
    let same : a.request ≡ request = one_asked words a.request request a.written written in
    let is : answer_to request a.bytes ≡ given.answer = subst (λ (q : Request). answer_to q a.bytes ≡ given.answer) same a.is in
    let made = subst (IsAsked what request.budget a.bytes) is (answer_asked what request verb a.bytes (ap (λ a. a.ending) is ∙ given.ends)) in
    record {
      read = bytes_read a.request.verb (verb_of what) (ap (λ q. q.verb) same ∙ verb) (asks_input what) before after a.bytes a.taken;
      asked = made;
      reported = asked_output what made.text request.budget made.system made.questions (sym (ap (λ a. a.ending) made.is) ∙ given.ends);
    }

-- ---- at a point
module _ {E : Type 0} {o : Operations E} (laws : DomainLaws o) {c : Coordinates E} (point : IsPoint o c) where
  -- what is printed for a text has the solutions of its system
  made_decomposed : (before after : Input) (out out' : Output) (budget : ℕ) → budget ≤ 20000000 → (bytes : List ℕ) → IsRead before after bytes → (answer : Answer) (made : IsMade budget bytes answer)
      → answer.ending ≡ Done → Appends out.written out'.written answer.output → IsDecomposed o c budget before after out.written out'.written
  made_decomposed before after out out' budget most bytes read answer made done printed =
      let h = has_tree Plain bytes made.text budget made.system made.spelled most made.expanded (sym (ap (λ a. a.ending) made.is) ∙ done) in
      record {
        bytes = bytes;
        text = made.text;
        system = made.system;
        tree = tree_of made.text budget made.system;
        read = read;
        spelled = system_found Plain bytes made.text made.spelled;
        expanded = made.expanded;
        certified = h.certified;
        complete = h.complete;
        has_budget = refl;
        printed = subst (Appends out.written out'.written) (ap (λ a. a.output) made.is ∙ document_is made.text budget made.system) printed;
        chains = h.chains;
        solutions = λ fits. (zero_sets (ranking_of made.text) o laws c point fits).of_complete made.system (tree_of made.text budget made.system) h.over h.certified h.complete;
      }

  -- a question with runs to zero by all chains vanishes at the solutions of the system
  question_vanishes : (text : Text) (budget : ℕ) (system : System) → HasTree text budget system → FitsSignature text.signature c → Solves o c system.equations system.inequations
      → (f : Polynomial Symbol) → IsOver (ranking_of text) f → AllOf (RunsToZero (setting_of (ranking_of text)) budget f) (tree_chains (ranking_of text) system (tree_of text budget system)) → HasValueZero o c f
  question_vanishes text budget system h fits solves f over runs =
      (zero_sets (ranking_of text) o laws c point fits).of_vanishing system (tree_of text budget system) f h.over over h.certified h.complete
      (all_give (RunsToZero (setting_of (ranking_of text)) budget f) (λ s. HasRunToZero (setting_of (ranking_of text)) s f) run_of (tree_chains (ranking_of text) system (tree_of text budget system)) runs) solves
    where
      run_of : (s : State) → RunsToZero (setting_of (ranking_of text)) budget f s → HasRunToZero (setting_of (ranking_of text)) s f
      run_of s (steps, e) = let n = ended_normal (setting_of (ranking_of text)) s budget f steps [] e in record { steps = steps; count = n.count; is = n.is_run }

  -- what is printed for a text with questions, where there is a report
  pub asked_reduced : (before after : Input) (out out' : Output) (budget : ℕ) → budget ≤ 20000000 → (bytes : List ℕ) → IsRead before after bytes → (answer : Answer) (a : IsAsked Reductions budget bytes answer)
      → IsReported Reductions a.text budget a.system a.questions → Appends out.written out'.written answer.output → IsReduced o c budget before after out.written out'.written
  asked_reduced before after out out' budget most bytes read answer a output printed =
      let h = has_tree Questions bytes a.text budget a.system a.spelled most a.expanded output.0 in
      let few = (system_ranked Questions bytes a.text a.spelled).few_independents in
      let over : AllOf (IsOver (ranking_of a.text)) a.questions = keepables_over (ranking_of a.text) few a.questions (questions_stand a.text a.questions (system_expressions Questions bytes a.text a.spelled) a.asked_are) in
      record {
        bytes = bytes;
        text = a.text;
        system = a.system;
        questions = a.questions;
        tree = tree_of a.text budget a.system;
        read = read;
        spelled = system_found Questions bytes a.text a.spelled;
        expanded = a.expanded;
        asked = a.asked_are;
        certified = h.certified;
        complete = h.complete;
        has_budget = refl;
        printed = subst (Appends out.written out'.written) (ap (λ a. a.output) a.is ∙ output.1) printed;
        vanishing = λ fits solves. all_give (IsOver (ranking_of a.text))
            (λ f. AllOf (RunsToZero (setting_of (ranking_of a.text)) budget f) (tree_chains (ranking_of a.text) a.system (tree_of a.text budget a.system)) → HasValueZero o c f)
            (question_vanishes a.text budget a.system h fits solves) a.questions over;
      }

  -- what a run gives that is done
  pub given_decomposed : (words : List (List ℕ)) (before after : Input) (out out' : Output) (point : List ℕ) (request : Request) → IsWritten words request → request.verb ≡ Decompose
      → IsGiven words before after out out' Done point → IsDecomposed o c request.budget before after out.written out'.written
  given_decomposed words before after out out' point request written verb given =
      let a = given.answered in
      let same : a.request ≡ request = one_asked words a.request request a.written written in
      let is : answer_to request a.bytes ≡ given.answer = subst (λ (q : Request). answer_to q a.bytes ≡ given.answer) same a.is in
      let made = answer_made request verb a.bytes (ap (λ a. a.ending) is ∙ given.ends) in
      let read = bytes_read a.request.verb Decompose (ap (λ q. q.verb) same ∙ verb) refl before after a.bytes a.taken in
      made_decomposed before after out out' request.budget (in_range words request written).budget.1 a.bytes read given.answer (subst (IsMade request.budget a.bytes) is made) given.ends given.printed

  pub given_reduced : (words : List (List ℕ)) (before after : Input) (out out' : Output) (point : List ℕ) (request : Request) → IsWritten words request → request.verb ≡ Reduce
      → IsGiven words before after out out' Done point → IsReduced o c request.budget before after out.written out'.written
  given_reduced words before after out out' point request written verb given =
      let a = asked_given Reductions words before after out out' point request written verb given in
      asked_reduced before after out out' request.budget (in_range words request written).budget.1 given.answered.bytes a.read given.answer a.asked a.reported given.printed

-- a run that ends with status 0 is given, and is done
pub zero_given : (words : List (List ℕ)) (before after : Input) (out out' : Output) (ending : Ending) (point : List ℕ) → Ends words before after out out' ending point → status_of ending ≡ 0 → IsGiven words before after out out' Done point
zero_given words before after out out' Done point ends status = ends
zero_given words before after out out' Rejected point ends status = absurd cc
zero_given words before after out out' NotWritten point ends status = absurd cc
zero_given words before after out out' (Syntax fault) point ends status = absurd cc
zero_given words before after out out' (Document fault) point ends status = absurd cc
zero_given words before after out out' Wide point ends status = absurd cc
zero_given words before after out out' Spent point ends status = absurd cc
zero_given words before after out out' Large point ends status = absurd cc
zero_given words before after out out' ReadFault point ends status = absurd cc
zero_given words before after out out' WriteFault point ends status = absurd cc
zero_given words before after out out' WriteStuck point ends status = absurd cc
zero_given words before after out out' NoMemory point ends status = absurd cc
zero_given words before after out out' Point point ends status = absurd cc
zero_given words before after out out' TooLong point ends status = absurd cc
