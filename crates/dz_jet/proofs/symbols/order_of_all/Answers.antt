use Rattle.std.proofs.Common.{◌∙◌, arith, ap}
use Rattle.dz_poly.specs.Books.{polynomial}
use Rattle.dz_monomials.specs.Ranked.{symbols_under}
use Rattle.dz_jet.specs.Jets.{order_of}
use Rattle.dz_jet.proofs.OrderFolds.{polynomial_order}
use Rattle.dz_jet.proofs.symbols.order_of_all.Goals as goal

pub loop-i-preserved : goal.loop-i-preserved
loop-i-preserved c = polynomial_order c.args.book.now c.args.polys.now c.loop-i.i c.index-polys-i.result c.loop-i.order c.order_of-order.result (omega (arith, c.loop-i-test.true)) (c.order_of-order.ensures ∙ ap (λ p. order_of (symbols_under c.args.book.now.ranking) (polynomial c.args.book.now p) c.loop-i.order) c.index-polys-i.is) ∙ c.loop-i.invariant
