use Rattle.std.proofs.Common.{◌≡◌, ◌∙◌, Ok, Some, None, ap, sym, subst}
use Rattle.std.specs.Prelude.{IfOk, IfErr}
use Rattle.dz_diff.specs.Operations.{setting_of}
use Rattle.dz_diff.specs.State.{at_place}
use Rattle.dz_diff.specs.States.{state_in}
use Rattle.dz_step.specs.StepStops.{IsStepStop}
use Rattle.dz_step.specs.Step.{step_in, step_answer}
use Rattle.dz_step.proofs.BookPlaces.{none_at, some_at, lives_at}
use Rattle.dz_step.proofs.FullCourses.{entry_regular, err_weaker, list_regular, next_is, not_no_step}
use Rattle.dz_step.proofs.attempts.next_result.Goals as goal

pub unreachable-requires : goal.unreachable-requires
unreachable-requires c =
    let book = c.args.book.now in
    let s = state_in book c.args.state.now in
    let n = next_is book.ranking s c.args.role c.args.f.now.terms (entry_regular book.ranking c.args.f.now.terms c.requires.f.keepable) (list_regular book c.args.state.now.equations c.opened.ensures c.requires.stands.equations_live) c.args.step c.requires.next in
    let none : at_place c.args.step.place s.equations ≡ None = none_at book c.args.state.now.equations c.args.step.place (sym c.equation_at.ensures ∙ c.in_default.is) in
    let there = n.stands in
    cc

pub entry-requires : goal.entry-requires
entry-requires c = lives_at c.args.book.now c.args.state.now.equations c.args.step.place c.in-Some.p c.requires.stands.equations_live (sym c.equation_at.ensures ∙ c.in-Some.is)

pub returns-clause-ok : goal.returns-clause-ok
returns-clause-ok c =
    let book = c.args.book.now in
    let s = state_in book c.args.state.now in
    let f = c.args.f.now.terms in
    let n = next_is book.ranking s c.args.role f (entry_regular book.ranking f c.requires.f.keepable) (list_regular book c.args.state.now.equations c.opened.ensures c.requires.stands.equations_live) c.args.step c.requires.next in
    let here : at_place c.args.step.place s.equations ≡ Some c.entry.result.now.terms = some_at book c.args.state.now.equations c.args.step.place c.in-Some.p (sym c.equation_at.ensures ∙ c.in-Some.is) ∙ ap Some (sym c.entry.ensures.value) in
    let there = n.stands in
    let same : n.equation ≡ c.entry.result.now.terms = cc in
    let a : step_in (setting_of book.ranking) s c.args.role f c.args.step ≡ step_answer (setting_of book.ranking) f c.entry.result.now.terms c.args.step.operator = n.answer ∙ ap (λ q. step_answer (setting_of book.ranking) f q c.args.step.operator) same in
    subst (λ q. IfOk c.step_entry.result (λ x. q ≡ Ok x.terms)) (sym a) (rw c.ranking.ensures at c.step_entry.ensures.ok)

pub returns-clause-refused : goal.returns-clause-refused
returns-clause-refused c =
    let book = c.args.book.now in
    let s = state_in book c.args.state.now in
    let f = c.args.f.now.terms in
    let n = next_is book.ranking s c.args.role f (entry_regular book.ranking f c.requires.f.keepable) (list_regular book c.args.state.now.equations c.opened.ensures c.requires.stands.equations_live) c.args.step c.requires.next in
    let here : at_place c.args.step.place s.equations ≡ Some c.entry.result.now.terms = some_at book c.args.state.now.equations c.args.step.place c.in-Some.p (sym c.equation_at.ensures ∙ c.in-Some.is) ∙ ap Some (sym c.entry.ensures.value) in
    let there = n.stands in
    let same : n.equation ≡ c.entry.result.now.terms = cc in
    let a : step_in (setting_of book.ranking) s c.args.role f c.args.step ≡ step_answer (setting_of book.ranking) f c.entry.result.now.terms c.args.step.operator = n.answer ∙ ap (λ q. step_answer (setting_of book.ranking) f q c.args.step.operator) same in
    subst (λ q. IfErr c.step_entry.result (λ stop. IsStepStop stop q)) (sym a) (rw c.ranking.ensures at c.step_entry.ensures.refused)

pub returns-clause-limited : goal.returns-clause-limited
returns-clause-limited c =
    let book = c.args.book.now in
    let s = state_in book c.args.state.now in
    let f = c.args.f.now.terms in
    let n = next_is book.ranking s c.args.role f (entry_regular book.ranking f c.requires.f.keepable) (list_regular book c.args.state.now.equations c.opened.ensures c.requires.stands.equations_live) c.args.step c.requires.next in
    let here : at_place c.args.step.place s.equations ≡ Some c.entry.result.now.terms = some_at book c.args.state.now.equations c.args.step.place c.in-Some.p (sym c.equation_at.ensures ∙ c.in-Some.is) ∙ ap Some (sym c.entry.ensures.value) in
    let there = n.stands in
    let same : n.equation ≡ c.entry.result.now.terms = cc in
    let a : step_in (setting_of book.ranking) s c.args.role f c.args.step ≡ step_answer (setting_of book.ranking) f c.entry.result.now.terms c.args.step.operator = n.answer ∙ ap (λ q. step_answer (setting_of book.ranking) f q c.args.step.operator) same in
    err_weaker c.step_entry.result (λ stop. not_no_step (step_in (setting_of book.ranking) s c.args.role f c.args.step) stop n.limited) (subst (λ q. IfErr c.step_entry.result (λ stop. IsStepStop stop q)) (sym a) (rw c.ranking.ensures at c.step_entry.ensures.refused))
