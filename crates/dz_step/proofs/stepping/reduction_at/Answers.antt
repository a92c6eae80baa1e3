use Rattle.std.proofs.Common.{◌≡◌, ◌∙◌, Ok, Some, None, ap, sym, subst, inr}
use Rattle.std.specs.Prelude.{IfOk, IfErr}
use Rattle.dz_diff.specs.Operations.{setting_of}
use Rattle.dz_algebra.specs.Outcome.{◌>>=◌, given}
use Rattle.dz_diff.specs.State.{at_place}
use Rattle.dz_diff.specs.States.{state_in}
use Rattle.dz_step.specs.StepStops.{IsStepStop, stop_of}
use Rattle.dz_step.specs.Reductions.{reduction_in}
use Rattle.dz_step.specs.Step.{no_step, reduction_answer}
use Rattle.dz_step.proofs.BookPlaces.{none_at, some_at, lives_at}
use Rattle.dz_step.proofs.stepping.reduction_at.Goals as goal

pub entry-requires : goal.entry-requires
entry-requires c = lives_at c.args.book.now c.args.state.now.equations c.args.step.place c.in-Some.p c.requires.stands.equations_live (sym c.equation_at.ensures ∙ c.in-Some.is)

pub returns-in_default-clause-refused : goal.returns-in_default-clause-refused
returns-in_default-clause-refused c =
    let book = c.args.book.now in
    let none : at_place c.args.step.place (state_in book c.args.state.now).equations ≡ None = none_at book c.args.state.now.equations c.args.step.place (sym c.equation_at.ensures ∙ c.in_default.is) in
    inr (ap (λ o. stop_of (given o no_step >>= (λ q. reduction_answer (setting_of book.ranking) c.args.f.now.terms q c.args.step.operator))) none)

pub returns-clause-ok : goal.returns-clause-ok
returns-clause-ok c =
    let book = c.args.book.now in
    let here : at_place c.args.step.place (state_in book c.args.state.now).equations ≡ Some c.entry.result.now.terms = some_at book c.args.state.now.equations c.args.step.place c.in-Some.p (sym c.equation_at.ensures ∙ c.in-Some.is) ∙ ap Some (sym c.entry.ensures.value) in
    let a = ap (λ o. given o no_step >>= (λ q. reduction_answer (setting_of book.ranking) c.args.f.now.terms q c.args.step.operator)) here in
    subst (λ z. IfOk c.reduction_entry.result (λ x. z ≡ Ok (reduction_in x))) (sym a) (rw c.ranking.ensures at c.reduction_entry.ensures.ok)

pub returns-clause-refused : goal.returns-clause-refused
returns-clause-refused c =
    let book = c.args.book.now in
    let here : at_place c.args.step.place (state_in book c.args.state.now).equations ≡ Some c.entry.result.now.terms = some_at book c.args.state.now.equations c.args.step.place c.in-Some.p (sym c.equation_at.ensures ∙ c.in-Some.is) ∙ ap Some (sym c.entry.ensures.value) in
    let a = ap (λ o. given o no_step >>= (λ q. reduction_answer (setting_of book.ranking) c.args.f.now.terms q c.args.step.operator)) here in
    subst (λ z. IfErr c.reduction_entry.result (λ stop. IsStepStop stop z)) (sym a) (rw c.ranking.ensures at c.reduction_entry.ensures.refused)
