use Rattle.std.proofs.Common.{◌≡◌, ◌∙◌, ap₂, rules, arith, sym, refl}
use Rattle.std.proofs.lemmas.Grind.{common_steps}
use Rattle.dz_algebra.specs.Monomial.{monomial_cmp}
use Rattle.dz_rank.specs.Rankings.{ranking_cmp}
use Rattle.dz_monomials.proofs.SameTerms.{same_pair, other_pair}
use Rattle.dz_terms.proofs.same.same_term.Goals as goal

pub returns-in-Equal : goal.returns-in-Equal
returns-in-Equal c =
    let k : c.args.a.now.1 ≡ c.args.b.now.1 = first_of (search rules, grind (arith, common_steps)) in
    let e : c.args.a.now ≡ c.args.b.now = same_pair c.args.ranking.now c.args.a.now c.args.b.now k (ap₂ (monomial_cmp (ranking_cmp c.args.ranking.now)) (sym c.powers.ensures) (sym c.powers-2.ensures) ∙ sym c.in-Equal.ensures) in
    (λ t. e, λ f. refl)

pub returns-in_default : goal.returns-in_default
returns-in_default c =
    (λ t. cc, λ e. absurd (c.in_default.not-Equal (c.compare_monomials.ensures ∙ ap₂ (monomial_cmp (ranking_cmp c.args.ranking.now)) c.powers.ensures c.powers-2.ensures ∙ other_pair c.args.ranking.now c.args.a.now c.args.b.now e)))
