use Rattle.std.proofs.Common.{◌∙◌, ap, max}
use Rattle.dz_poly.specs.Books.{polynomial, term_at}
use Rattle.dz_monomials.specs.Ranked.{symbols_under}
use Rattle.dz_jet.proofs.OrderFolds.{power_order}
use Rattle.dz_jet.proofs.symbols.order_of_term.Goals as goal

pub loop-j-preserved : goal.loop-j-preserved
loop-j-preserved c = power_order (symbols_under c.args.book.now.ranking) (term_at (polynomial c.args.book.now c.args.p) c.args.k).0 c.loop-j.j c.loop-j.order c.max-order.result _ c.power_at.ensures (c.max-order.ensures ∙ ap (max c.loop-j.order) c.total_order.ensures) ∙ c.loop-j.invariant
