use Rattle.std.proofs.Common.{◌∙◌, arith, ap, subst, sym}
use Rattle.dz_monomials.specs.Ranked.{symbols_under}
use Rattle.dz_diff.specs.States.{LiveAll, polynomials}
use Rattle.dz_jet.specs.Jets.{jet_order, order_of_all}
use Rattle.dz_jet.proofs.OrderFolds.{all_low}
use Rattle.dz_jet.proofs.symbols.jet_order.Goals as goal

pub overflow_cast-result : goal.overflow_cast-result
overflow_cast-result c =
    let b = c.args.book.now in
    let first = all_low b c.opened.ensures c.equations.result.now c.from.result (subst (LiveAll b) (sym c.equations.ensures.items) c.requires.equations_live) in
    let second = all_low b c.opened.ensures c.inequations.result.now c.order_of_all-order.result (subst (LiveAll b) (sym c.inequations.ensures.items) c.requires.inequations_live) in
    omega (arith, first, second, c.order_of_all-order.ensures, c.order_of_all.ensures, c.from.ensures, c.ranges.least.fits)

pub returns : goal.returns
unfolding jet_order
returns c =
    let b = c.args.book.now in
    let g = symbols_under b.ranking in
    c.order_of_all.ensures
    ∙ ap (λ hs. order_of_all g (polynomials b hs) c.order_of_all-order.result) c.inequations.ensures.items
    ∙ ap (order_of_all g (polynomials b c.args.chain.now.inequations)) (c.order_of_all-order.ensures ∙ ap (λ es. order_of_all g (polynomials b es) c.from.result) c.equations.ensures.items ∙ ap (order_of_all g (polynomials b c.args.chain.now.equations)) c.from.ensures)
