use Rattle.std.proofs.Common.{◌≡◌, ◌<◌, ◌+◌, ◌∙◌, [], slice_index_or, take, length, refl, sym, subst, ap, arith}
use Rattle.dz_diff.specs.States.{polynomials, state_in}
use Rattle.dz_poly.specs.Books.{polynomial}
use Rattle.dz_step.specs.Divisors.{AreKeptOf, IsKeptOf}
use Rattle.dz_step.specs.declared.Role.TheVariants.{Free}
use Rattle.dz_step.proofs.DivisorTables.{kept_more, polynomial_here, polynomials_length}
use Rattle.dz_engine.specs.Facts.{names_of}
use Rattle.dz_engine.proofs.KnownFacts.{name_at, names_length}
use Rattle.dz_engine.proofs.facts.divisors_by.Goals as goal

pub loop-of_one-preserved : goal.loop-of_one-preserved
loop-of_one-preserved c =
    let book = c.args.book.now in
    let r = book.ranking in
    let hs = (state_in book c.args.state.now).inequations in
    let fs = c.args.facts.now in
    let ps = names_of fs in
    let i = c.loop-of_one.of_one-index in
    let l : i < length fs = c.loop-of_one-test.true in
    let n = polynomials_length book ps in
    let m = names_length fs in
    let here : polynomial book c.of_one-item.result.poly ≡ slice_index_or (polynomials book ps) i [] = ap (polynomial book) (ap (λ f. f.poly) c.of_one-item.is ∙ sym (name_at fs i 0 c.of_one-item.result l)) ∙ sym (polynomial_here book ps i 0 (omega (arith, l, m))) in
    subst (AreKeptOf r hs Free 1 (take (i + 1) (polynomials book ps))) (sym c.in_ok-push.ensures.items)
    (kept_more r hs Free i 1 (i + 1) (polynomials book ps) c.loop-of_one.table.items c.divisor_by.result (omega (arith, n, m, l)) refl (subst (λ q. IsKeptOf r hs Free (i + 1) q c.divisor_by.result) here (c.divisor_by.ensures (i + 1))) c.loop-of_one.invariant)
