-- What runs of `parametric` that are done say of a chain.
use Rattle.std.proofs.Common.{◌≡◌, ◌≤◌, ◌++◌, ◌-◌, ◌∙◌, ℕ, Bool, true, false, List, length, slice_get, Option, Some, None, Ok, ap, refl, sym, subst, arith, ltb-false}
use Rattle.std.specs.Io.KnownBytes.{Appends}
use Rattle.dz_algebra.specs.Polynomial.{Polynomial, PolynomialIn}
use Rattle.dz_rank.specs.Rankings.{RankingValue}
use Rattle.dz_rank.specs.Symbols.{BelongsTo}
use Rattle.dz_rank.specs.declared.symbols.Symbol.{Symbol}
use Rattle.dz_monomials.specs.Keeping.{IsKeepable}
use Rattle.dz_diff.specs.Operations.{setting_of}
use Rattle.dz_diff.specs.State.{State}
use Rattle.dz_move.specs.Root.{System}
use Rattle.dz_move.specs.Standing.{IsStateOver}
use Rattle.dz_move.proofs.KeptMembers.{all_give}
use Rattle.dz_parametric.specs.Cones.{cones_of}
use Rattle.dz_parametric.specs.Reports.{has_many_cones, parametric_report}
use Rattle.dz_parametric.proofs.Described.{described}
use Rattle.dz_jet.specs.Jets.{Values}
use Rattle.dz_syntax.specs.Names.{Declared}
use Rattle.dz_syntax.specs.declared.endings.Form.TheVariants.{Plain}
use Rattle.dz_syntax.specs.Systems.{Tree as Text, system_of}
use Rattle.dz_syntax.proofs.Ranked.{system_ranked}
use Rattle.dz_syntax.proofs.SystemExpressions.{system_expressions}
use Rattle.dz_syntax.proofs.SystemReadings.{system_found}
use Rattle.dz_cert.specs.Documents.{document_of}
use Rattle.dz_cert.proofs.ChainEnds.{certified_chains}
use Rattle.dz_cert.proofs.WrittenSteps.{all_of_at}
use Rattle.dz_words.specs.Words.{IsWritten}
use Rattle.dz_words.specs.declared.verbs.Verb.TheVariants as verbs
use Rattle.dz_words.specs.declared.words.Request.{Request}
use Rattle.dz_words.proofs.Written.{in_range, one_asked}
use Rattle.dz_run.specs.declared.charting.Chart.TheVariants.{Parametric}
use Rattle.dz_run.specs.declared.ending.Ending.TheVariants.{Done}
use Rattle.dz_run.specs.Answer.{Answer}
use Rattle.dz_run.specs.Charted.{chain_answer, charted, cones_ending}
use Rattle.dz_run.specs.Decomposed.{decomposed, tree_chains, worked_chains}
use Rattle.dz_run.specs.Headline.{HasCones}
use Rattle.dz_run.specs.Run.{Input, IsGiven, IsRead, Output}
use Rattle.dz_run.specs.System.{ranking_of, system_answer}
use Rattle.dz_run.specs.Verbs.{answer_to}
use Rattle.dz_run.proofs.Decompositions.{bytes_read, document_is, has_tree, tree_of}
use Rattle.dz_run.proofs.DoneAnswers.{both_done, done_expanded, told_done}
use Rattle.dz_run.proofs.ItemsStand.{system_stands}

-- ---- the chain that is told of
-- The chain is there, it has not too many cones, and what is told of it is its report.
record IsThere (r : RankingValue) (names : Declared) (k order : ℕ) (found : Option State) (answer : Answer) : Type 0 where
  chain : State
  stands : found ≡ Some chain
  few : length (cones_of r chain) ≤ 4096
  report : answer.output ≡ parametric_report r names k chain order

-- and so it is where the answer is done
chain_there : (r : RankingValue) (names : Declared) (k : ℕ) (values : Values) (order : ℕ) (found : Option State) → (chain_answer Parametric r names k values order found).ending ≡ Done
    → IsThere r names k order found (chain_answer Parametric r names k values order found)
chain_there r names k values order None done = absurd cc
chain_there r names k values order (Some s) done = record { chain = s; stands = refl; few = by (has_many_cones r s) refl done; report = refl }
  where
    by : (many : Bool) → has_many_cones r s ≡ many → cones_ending many ≡ Done → length (cones_of r s) ≤ 4096
    by true e d = absurd cc
    by false e d = let h = ltb-false _ _ e in omega (arith, h)

-- ---- an answer of `parametric` that is done
record IsTold (q : Request) (bytes : List ℕ) (answer : Answer) : Type 0 where
  text : Text
  system : System
  spelled : system_of Plain bytes ≡ Ok text
  expanded : system_answer text ≡ Ok system
  is : answer ≡ charted Parametric (ranking_of text) text.names q text.values system

answer_told : (q : Request) → q.verb ≡ verbs.Parametric → (bytes : List ℕ) → (answer_to q bytes).ending ≡ Done → IsTold q bytes (answer_to q bytes)
answer_told q verb bytes done =
    let told = told_done q verbs.Parametric verb Plain refl bytes done in
    let made = done_expanded (system_answer told.0) (charted Parametric (ranking_of told.0) told.0.names q told.0.values) (sym (ap (λ a. a.ending) told.2) ∙ done) in
    record { text = told.0; system = made.0; spelled = told.1; expanded = made.1; is = told.2 ∙ made.2 }

-- Its output is the document, and the report of the chain behind it.
record HasReport (text : Text) (q : Request) (system : System) (output : List ℕ) : Type 0 where
  done : (decomposed (ranking_of text) text.names q.budget system).ending ≡ Done
  chain : State
  stands : slice_get (tree_chains (ranking_of text) system (tree_of text q.budget system)) (q.chain - 1) ≡ Some chain
  few : length (cones_of (ranking_of text) chain) ≤ 4096
  is : output ≡ document_of (setting_of (ranking_of text)) text.names system (tree_of text q.budget system) ++ parametric_report (ranking_of text) text.names q.chain chain q.order

told_output : (text : Text) (q : Request) (system : System) → (charted Parametric (ranking_of text) text.names q text.values system).ending ≡ Done
    → HasReport text q system (charted Parametric (ranking_of text) text.names q text.values system).output
unfolding charted worked_chains
told_output text q system done =
    let r : RankingValue = ranking_of text in
    let found : Option State = slice_get (worked_chains r q.budget system) (q.chain - 1) in
    let next = chain_answer Parametric r text.names q.chain text.values q.order found in
    let both = both_done (decomposed r text.names q.budget system) next done in
    let there = chain_there r text.names q.chain text.values q.order found both.1 in
    record {
      done = both.0;
      chain = there.chain;
      stands = there.stands;
      few = there.few;
      is = both.2 ∙ ap (λ (x : List ℕ). x ++ next.output) (document_is text q.budget system)
          ∙ ap (λ (x : List ℕ). document_of (setting_of r) text.names system (tree_of text q.budget system) ++ x) there.report;
    }

-- ---- what it says holds
made_told : (before after : Input) (out out' : Output) (q : Request) → q.budget ≤ 20000000 → (bytes : List ℕ) → IsRead before after bytes → (answer : Answer) (a : IsTold q bytes answer)
    → answer.ending ≡ Done → Appends out.written out'.written answer.output → HasCones q before after out.written out'.written
made_told before after out out' q most bytes read answer a done printed =
    let r : RankingValue = ranking_of a.text in
    let h = told_output a.text q a.system (sym (ap (λ a. a.ending) a.is) ∙ done) in
    let t = has_tree Plain bytes a.text q.budget a.system a.spelled most a.expanded h.done in
    let few = (system_ranked Plain bytes a.text a.spelled).few_independents in
    let stands = system_stands a.text a.system (system_expressions Plain bytes a.text a.spelled) a.expanded in
    let over = (certified_chains r a.system (tree_of a.text q.budget a.system) few stands.0 stands.1 t.certified).over in
    let chain = all_of_at (IsStateOver r) (tree_chains r a.system (tree_of a.text q.budget a.system)) (q.chain - 1) h.chain h.stands over in
    record {
      bytes = bytes;
      text = a.text;
      system = a.system;
      tree = tree_of a.text q.budget a.system;
      chain = h.chain;
      read = read;
      spelled = system_found Plain bytes a.text a.spelled;
      expanded = a.expanded;
      certified = t.certified;
      complete = t.complete;
      has_budget = refl;
      stands = h.stands;
      few = h.few;
      printed = subst (Appends out.written out'.written) (ap (λ a. a.output) a.is ∙ h.is) printed;
      described = described r few h.chain (all_give (IsKeepable r) (PolynomialIn (BelongsTo r.signature)) (λ (p : Polynomial Symbol) k. k.belongs) h.chain.equations chain.stands.equations_keepable) q.order;
    }

-- what a run of `parametric` gives that is done
pub given_described : (words : List (List ℕ)) (before after : Input) (out out' : Output) (point : List ℕ) (request : Request) → IsWritten words request → request.verb ≡ verbs.Parametric
    → IsGiven words before after out out' Done point → HasCones request before after out.written out'.written
given_described words before after out out' point request written verb given =
    let a = given.answered in
    let same : a.request ≡ request = one_asked words a.request request a.written written in
    let is : answer_to request a.bytes ≡ given.answer = subst (λ (q : Request). answer_to q a.bytes ≡ given.answer) same a.is in
    let told = answer_told request verb a.bytes (ap (λ a. a.ending) is ∙ given.ends) in
    let read = bytes_read a.request.verb verbs.Parametric (ap (λ q. q.verb) same ∙ verb) refl before after a.bytes a.taken in
    made_told before after out out' request (in_range words request written).budget.1 a.bytes read given.answer (subst (IsTold request a.bytes) is told) given.ends given.printed
