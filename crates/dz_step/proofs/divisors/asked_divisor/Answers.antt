use Rattle.std.proofs.Common.{refl, subst}
use Rattle.dz_step.specs.declared.Role.TheVariants.{Free}
use Rattle.dz_step.specs.Divisors.{IsKeptOf}
use Rattle.dz_step.proofs.divisors.asked_divisor.Goals as goal

pub returns-in_default : goal.returns-in_default
returns-in_default c = λ hs place a.
    subst (λ o. IsKeptOf c.args.ranking.now hs Free 1 c.args.q.now.terms o) c.in_default.is (c.unasked.ensures hs)

pub returns : goal.returns
returns c = λ hs place a.
    let h = subst (λ o. IsKeptOf c.args.ranking.now hs Free 1 c.args.q.now.terms o) c.in-Some.is (c.unasked.ensures hs) in
    let i = c.with_answer-with_initial.ensures c.args.ranking.now hs c.args.q.now.terms h.1 (a.initial_is c.in-Some.divisor.lead h.1.leads) in
    (refl, c.with_answer.ensures c.args.ranking.now hs c.args.q.now.terms i (a.separant_is c.with_answer-with_initial.result.lead i.leads))
