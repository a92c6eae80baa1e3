use Rattle.dz_terms.proofs.Answered.{answers_by}
use Rattle.dz_monomials.proofs.Summing.{both_ok}
use Rattle.dz_monomials.proofs.RateTables.{rows_keepable}
use Rattle.dz_terms.proofs.derivations.rows_answer.Goals as goal

pub returns : goal.returns
returns c =
    let e = c.in_ok-support.ensures.ok.answer in
    answers_by c.args.ranking.now c.conclude.result _
    (rw (← e) c.conclude.ensures.ok)
    (both_ok (λ x h g. record { keepable = rows_keepable c.args.ranking.now c.args.entry.now.terms c.args.entry.now.degrees c.requires.entry c.args.rates.now c.requires.rates x.terms (rw (← e) h); degrees_are = g }) c.conclude.result c.conclude.ensures.ok c.conclude.ensures.degrees)
    (rw (← e) c.conclude.ensures.refused)
