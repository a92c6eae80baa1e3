use Rattle.std.proofs.Common.{◌∙◌, ap, subst, sym}
use Rattle.dz_monomials.specs.Ranked.{symbols_under}
use Rattle.dz_poly.specs.Books.{polynomial}
use Rattle.dz_diff.specs.States.{polynomials, state_in}
use Rattle.dz_step.specs.Divisors.{AreAnswersOf, IsKeptOf}
use Rattle.dz_step.specs.Step.{multiplier_answer, permitted_if}
use Rattle.dz_step.specs.declared.Role.TheVariants.{Free}
use Rattle.dz_step.specs.declared.Which.TheVariants.{Initial, Separant}
use Rattle.dz_engine.proofs.facts.divisor_by.Goals as goal

pub returns : goal.returns
returns c = λ place.
    let book = c.args.book.now in
    let r = book.ranking in
    let g = symbols_under r in
    let hs = (state_in book c.args.state.now).inequations in
    let q = polynomial book c.args.facts.now.poly in
    let a : AreAnswersOf r hs q c.is_granted-initial.result c.is_granted-separant.result = record {
      initial_is = λ l e. c.is_granted-initial.ensures (multiplier_answer g Initial l q) (c.requires.known.facts.initial_is l e) ∙ ap (λ ps. permitted_if g (polynomials book ps) (multiplier_answer g Initial l q)) c.inequations.ensures.items;
      separant_is = λ l e. c.is_granted-separant.ensures (multiplier_answer g Separant l q) (c.requires.known.facts.separant_is l e) ∙ ap (λ ps. permitted_if g (polynomials book ps) (multiplier_answer g Separant l q)) c.inequations-2.ensures.items;
    } in
    let b = subst (λ r. AreAnswersOf r hs c.entry.result.now.terms c.is_granted-initial.result c.is_granted-separant.result) (sym c.ranking.ensures) (subst (λ q. AreAnswersOf r hs q c.is_granted-initial.result c.is_granted-separant.result) (sym c.entry.ensures.value) a) in
    subst (λ q. IsKeptOf r hs Free place q c.asked_divisor.result) c.entry.ensures.value (subst (λ r. IsKeptOf r hs Free place c.entry.result.now.terms c.asked_divisor.result) c.ranking.ensures (c.asked_divisor.ensures hs place b))
