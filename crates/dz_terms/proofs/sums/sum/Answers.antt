use Rattle.dz_terms.proofs.Answered.{answers_by}
use Rattle.dz_monomials.proofs.Summing.{sum_keepable, both_ok}
use Rattle.dz_terms.proofs.sums.sum.Goals as goal

pub returns : goal.returns
returns c =
    let e = c.in_ok-support.ensures.answer in
    answers_by c.args.ranking.now c.conclude.result _
    (rw (← e) c.conclude.ensures.ok)
    (both_ok (λ entry h g. record { keepable = sum_keepable c.args.ranking.now c.args.a.now.terms c.args.sign c.args.b.now.terms c.requires.first.keepable c.requires.second.keepable entry.terms (rw (← e) h); degrees_are = g }) c.conclude.result c.conclude.ensures.ok c.conclude.ensures.degrees)
    (rw (← e) c.conclude.ensures.refused)
