use Rattle.std.proofs.Common.{◌≡◌, ◌∙◌, ◌-◌, ◌++◌, ◌∷◌, [], ap, ap₂, sym, subst, arith, rules, to_z, of_z}
use Rattle.std.specs.Int.{w128}
use Rattle.std.proofs.lemmas.Grind.{common_steps}
use Rattle.dz_algebra.specs.Monomial.{IsMonomial, exponent}
use Rattle.dz_rank.specs.Rankings.{ranking_cmp}
use Rattle.dz_monomials.specs.Terms.{with_exponent}
use Rattle.dz_monomials.proofs.Multiplying.{monomial_at}
use Rattle.dz_monomials.proofs.SymbolLaws.{ranking_order}
use Rattle.dz_monomials.proofs.QuotientsByPowers.{power_at, divided_more}
use Rattle.dz_terms.proofs.power_quotients.divided_terms.Goals as goal

pub exponent_of-requires : goal.exponent_of-requires
exponent_of-requires c =
    subst (IsMonomial (ranking_cmp c.args.ranking.now)) (sym c.powers.ensures) (monomial_at (ranking_cmp c.args.ranking.now) c.args.terms.now c.loop-term.term-index c.term-item.result (omega arith) c.term-item.is c.requires.canonical)

pub overflow_sub-left : goal.overflow_sub-left
overflow_sub-left c =
    let h = power_at (ranking_cmp c.args.ranking.now) c.args.v c.args.k c.args.terms.now c.loop-term.term-index c.term-item.result c.requires.divides (omega arith) c.term-item.is in
    let e : c.exponent_of.result ≡ exponent (ranking_cmp c.args.ranking.now) c.args.v c.term-item.result.0 = c.exponent_of.ensures ∙ ap (exponent (ranking_cmp c.args.ranking.now) c.args.v) c.powers.ensures in
    omega (arith, h, e)

pub loop-term-preserved : goal.loop-term-preserved
loop-term-preserved c =
    let cmp = ranking_cmp c.args.ranking.now in
    let e : c.exponent_of.result ≡ exponent (ranking_cmp c.args.ranking.now) c.args.v c.term-item.result.0 = c.exponent_of.ensures ∙ ap (exponent (ranking_cmp c.args.ranking.now) c.args.v) c.powers.ensures in
    let j : to_z w128 (of_z w128 c.coefficient.result) ≡ c.term-item.result.1 = first_of (search rules, grind (arith, common_steps)) in
    c.in_ok-push.ensures.items
    ∙ ap₂ (λ l t. l ++ t ∷ []) c.loop-term.invariant c.new.ensures
    ∙ divided_more (ranking_order c.args.ranking.now) c.args.v c.args.k c.args.terms.now c.loop-term.term-index c.term-item.result (c.exponent_of.result - c.args.k) c.in_ok-powers.powers.items (to_z w128 (of_z w128 c.coefficient.result)) (omega arith) c.term-item.is
    (monomial_at cmp c.args.terms.now c.loop-term.term-index c.term-item.result (omega arith) c.term-item.is c.requires.canonical)
    (ap (λ n. n - c.args.k) e)
    (c.in_ok-powers.ensures ∙ ap (with_exponent cmp c.args.v (c.exponent_of.result - c.args.k)) c.powers-in-loop-term.ensures)
    j
