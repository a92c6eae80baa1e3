use Rattle.std.specs.Prelude.{is_some, not}
use Rattle.std.proofs.Common.{◌≡◌, ◌+◌, ◌∙◌, false, refl, slice_index_or, [], sym, ap, Option, Some, None}
use Rattle.dz_poly.specs.Books.{polynomial}
use Rattle.dz_diff.specs.Operations.{setting_of}
use Rattle.dz_diff.specs.States.{polynomials, state_in}
use Rattle.dz_step.specs.declared.Step.{Step}
use Rattle.dz_step.specs.declared.Role.TheVariants.{Free}
use Rattle.dz_step.specs.FullRun.{next_step}
use Rattle.dz_step.proofs.DivisorTables.{polynomial_here}
use Rattle.dz_engine.proofs.FewerSteps.{no_less}
use Rattle.dz_engine.proofs.admitting.is_weedable.Goals as goal

-- there is none
none_is : (o : Option Step) → is_some o ≡ false → o ≡ None
none_is None e = refl
none_is (Some x) e = cc

pub returns-then-is_none-clause-answer : goal.returns-then-is_none-clause-answer
returns-then-is_none-clause-answer c =
    let book = c.args.book.now in
    let g = setting_of book.ranking in
    let s = state_in book c.args.state.now in
    let ps = c.args.state.now.inequations in
    let k = c.args.k in
    let there : c.index-inequations-k.result ≡ slice_index_or ps k c.index-inequations-k.result = c.index-inequations-k.is ∙ ap (λ ps. slice_index_or ps k c.index-inequations-k.result) c.inequations.ensures.items in
    let here : c.entry-entry.result.now.terms ≡ slice_index_or (polynomials book ps) k [] = c.entry-entry.ensures.value ∙ ap (polynomial book) there ∙ sym (polynomial_here book ps k c.index-inequations-k.result c.requires.inside) in
    let none : next_step g s Free c.entry-entry.result.now.terms ≡ None = sym c.in_ok-next_step_entry.ensures.step ∙ none_is c.in_ok-next_step_entry.field-0 (c.is_none.ensures ∙ ap not c.if-is_none.true) in
    sym (ap is_some (no_less g s (k + 1) (slice_index_or (polynomials book ps) k []) (ap (next_step g s Free) (sym here) ∙ none)))
