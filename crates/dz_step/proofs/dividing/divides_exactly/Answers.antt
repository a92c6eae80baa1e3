use Rattle.std.proofs.Common.{◌≡◌, ◌∙◌, ap, ap₂, sym, Some}
use Rattle.dz_algebra.specs.Polynomial.{Polynomial}
use Rattle.dz_rank.specs.Rankings.{RankingValue, ranking_cmp}
use Rattle.dz_rank.specs.declared.symbols.Symbol.{Symbol}
use Rattle.dz_monomials.specs.PowerDivision.{divisor_power, quotient_by}
use Rattle.dz_monomials.proofs.QuotientsByPowers.{quotient_itself}
use Rattle.dz_step.proofs.dividing.divides_exactly.Goals as goal

pub returns-then-k-eq0-clause-quotient : goal.returns-then-k-eq0-clause-quotient
returns-then-k-eq0-clause-quotient c =
    let r = c.args.book.now.ranking in
    let p = c.entry.result.now.terms in
    let zero : 0 ≡ divisor_power (ranking_cmp r) c.args.v p = sym c.if-k-eq0.true ∙ c.divisor_power-k.ensures ∙ ap (λ (r : RankingValue). divisor_power (ranking_cmp r) c.args.v p) c.ranking.ensures in
    c.entry.ensures.means
    ∙ ap Some (sym (quotient_itself r c.args.v p c.entry.result.now.degrees c.entry.ensures.entry zero) ∙ ap (quotient_by (ranking_cmp r) c.args.v) c.entry.ensures.value)

pub returns-clause-quotient : goal.returns-clause-quotient
returns-clause-quotient c =
    c.in_ok-keep.ensures.ok
    ∙ ap Some (c.in_ok-quotient.ensures.terms ∙ ap₂ (λ (r : RankingValue) (p : Polynomial Symbol). quotient_by (ranking_cmp r) c.args.v p) c.ranking-2.ensures c.entry-2.ensures.value)
