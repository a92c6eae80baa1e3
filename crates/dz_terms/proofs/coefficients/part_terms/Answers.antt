use Rattle.std.proofs.Common.{◌∙◌, ◌++◌, ap₂, arith}
use Rattle.dz_rank.specs.Rankings.{ranking_cmp}
use Rattle.dz_monomials.proofs.Multiplying.{monomial_at}
use Rattle.dz_monomials.proofs.PowerCoefficients.{term_more}
use Rattle.dz_terms.proofs.coefficients.part_terms.Goals as goal

pub term_part-requires-clause-canonical : goal.term_part-requires-clause-canonical
term_part-requires-clause-canonical c = monomial_at (ranking_cmp c.args.ranking.now) c.args.terms.now c.loop-term.term-index c.term-item.result (omega arith) c.term-item.is c.requires.canonical

pub loop-term-preserved : goal.loop-term-preserved
loop-term-preserved c =
    c.in_ok-push_found.ensures
    ∙ ap₂ (λ l m. l ++ m) c.loop-term.invariant c.in_ok-found.ensures
    ∙ term_more (ranking_cmp c.args.ranking.now) c.args.symbol c.args.exponent c.args.left c.args.terms.now c.loop-term.term-index c.term-item.result (omega arith) c.term-item.is
