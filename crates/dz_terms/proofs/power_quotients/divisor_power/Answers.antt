use Rattle.std.proofs.Common.{◌∙◌, sym, subst, arith}
use Rattle.dz_algebra.specs.Monomial.{IsMonomial}
use Rattle.dz_algebra.specs.Polynomial.{IsPolynomial}
use Rattle.dz_rank.specs.Rankings.{ranking_cmp}
use Rattle.dz_monomials.proofs.Multiplying.{monomial_at}
use Rattle.dz_monomials.proofs.QuotientsByPowers.{least_reached}
use Rattle.dz_terms.proofs.power_quotients.divisor_power.Goals as goal

pub returns-then-least-eq0 : goal.returns-then-least-eq0
returns-then-least-eq0 c = sym (c.loop-term.invariant ∙ least_reached (ranking_cmp c.args.ranking.now) c.args.v c.terms-term-items.result.now c.loop-term.term-index c.loop-term.least c.if-least-eq0.true)

pub exponent_of-requires : goal.exponent_of-requires
exponent_of-requires c =
    subst (IsMonomial (ranking_cmp c.args.ranking.now)) (sym c.powers.ensures)
    (monomial_at (ranking_cmp c.args.ranking.now) c.terms-term-items.result.now c.loop-term.term-index c.term-item.result (omega arith) c.term-item.is (subst (IsPolynomial (ranking_cmp c.args.ranking.now)) (sym c.terms-term-items.ensures) c.requires.keepable.canonical))
