use Rattle.std.proofs.Common.{◌∙◌, sym}
use Rattle.dz_diff.specs.Operations.{setting_of}
use Rattle.dz_diff.specs.States.{state_in}
use Rattle.dz_engine.specs.Order.{next_entry}
use Rattle.dz_engine.proofs.NextRules.{after_closed, after_divide, after_factor, after_reduce, after_split, after_weed, divided, factored, reduced, split_is, weeded}
use Rattle.dz_engine.proofs.rules.first_found.Goals as goal

pub returns-in-Some-clause-found : goal.returns-in-Some-clause-found
returns-in-Some-clause-found c = λ budget w.
    let g = setting_of c.args.book.now.ranking in
    let s = state_in c.args.book.now c.args.state.now in (
      after_closed g budget w s c.requires.unclosed
          ∙ divided g budget w s c.in-Some.place c.in-Some.symbol (sym c.in_ok-place.ensures ∙ c.in-Some.is),
      tt,
    )

pub returns-in-Some-2-clause-found : goal.returns-in-Some-2-clause-found
returns-in-Some-2-clause-found c = λ budget w.
    let g = setting_of c.args.book.now.ranking in
    let s = state_in c.args.book.now c.args.state.now in
    reduced g budget w s (next_entry g budget w s) c.in-Some-2.place
    (after_closed g budget w s c.requires.unclosed
    ∙ after_divide g budget w s (sym c.in_ok-place.ensures ∙ c.in_default.is))
    (sym c.in_ok-place-2.ensures.found ∙ c.in-Some-2.is)

pub returns-in-Some-3-clause-found : goal.returns-in-Some-3-clause-found
returns-in-Some-3-clause-found c = λ budget w.
    let g = setting_of c.args.book.now.ranking in
    let s = state_in c.args.book.now c.args.state.now in (
      after_closed g budget w s c.requires.unclosed
          ∙ after_divide g budget w s (sym c.in_ok-place.ensures ∙ c.in_default.is)
          ∙ after_reduce g budget w s (sym c.in_ok-place-2.ensures.found ∙ c.in_default-2.is)
          ∙ factored g budget w s c.in-Some-3.place c.in-Some-3.symbol (sym c.in_ok-place-3.ensures ∙ c.in-Some-3.is),
      tt,
    )

pub returns-in-Some-splittable-clause-found : goal.returns-in-Some-splittable-clause-found
returns-in-Some-splittable-clause-found c = λ budget w.
    let g = setting_of c.args.book.now.ranking in
    let s = state_in c.args.book.now c.args.state.now in
    split_is g budget w s (next_entry g budget w s) c.in-Some-splittable.place c.in-Some-splittable.which c.split_of.result
    (after_closed g budget w s c.requires.unclosed
    ∙ after_divide g budget w s (sym c.in_ok-place.ensures ∙ c.in_default.is)
    ∙ after_reduce g budget w s (sym c.in_ok-place-2.ensures.found ∙ c.in_default-2.is)
    ∙ after_factor g budget w s (sym c.in_ok-place-3.ensures ∙ c.in_default-3.is))
    (sym c.splittable.ensures ∙ c.in-Some-splittable.is) (c.split_of.ensures g budget w s)

pub returns-in-Some-4-clause-found : goal.returns-in-Some-4-clause-found
returns-in-Some-4-clause-found c = λ budget w.
    let g = setting_of c.args.book.now.ranking in
    let s = state_in c.args.book.now c.args.state.now in
    weeded g budget w s (next_entry g budget w s) c.in-Some-4.place
    (after_closed g budget w s c.requires.unclosed
    ∙ after_divide g budget w s (sym c.in_ok-place.ensures ∙ c.in_default.is)
    ∙ after_reduce g budget w s (sym c.in_ok-place-2.ensures.found ∙ c.in_default-2.is)
    ∙ after_factor g budget w s (sym c.in_ok-place-3.ensures ∙ c.in_default-3.is)
    ∙ after_split g budget w s (sym c.splittable.ensures ∙ c.in_default-splittable.is))
    (sym c.in_ok-place-4.ensures.found ∙ c.in-Some-4.is)

pub returns-clause-found : goal.returns-clause-found
returns-clause-found c = λ budget w.
    let g = setting_of c.args.book.now.ranking in
    let s = state_in c.args.book.now c.args.state.now in
    after_closed g budget w s c.requires.unclosed
    ∙ after_divide g budget w s (sym c.in_ok-place.ensures ∙ c.in_default.is)
    ∙ after_reduce g budget w s (sym c.in_ok-place-2.ensures.found ∙ c.in_default-2.is)
    ∙ after_factor g budget w s (sym c.in_ok-place-3.ensures ∙ c.in_default-3.is)
    ∙ after_split g budget w s (sym c.splittable.ensures ∙ c.in_default-splittable.is)
    ∙ after_weed g budget w s (sym c.in_ok-place-4.ensures.found ∙ c.in_default-4.is)
