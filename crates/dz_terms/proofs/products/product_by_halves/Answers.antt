use Rattle.dz_monomials.proofs.Multiplying.{product_keepable}
use Rattle.dz_terms.proofs.Answered.{answers_by}
use Rattle.dz_monomials.proofs.Summing.{both_ok}
use Rattle.dz_terms.proofs.products.product_by_halves.Goals as goal

pub returns : goal.returns
returns c =
    let e = c.in_ok-support.ensures.ok.answer in
    answers_by c.args.ranking.now c.conclude.result _
    (rw (← e) c.conclude.ensures.ok)
    (both_ok (λ entry h g. record { keepable = product_keepable c.args.ranking.now c.args.p.now.terms c.args.q.now.terms c.requires.first.keepable c.requires.second.keepable entry.terms (rw (← e) h); degrees_are = g }) c.conclude.result c.conclude.ensures.ok c.conclude.ensures.degrees)
    (rw (← e) c.conclude.ensures.refused)
