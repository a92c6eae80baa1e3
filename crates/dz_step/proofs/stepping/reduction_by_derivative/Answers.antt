use Rattle.std.proofs.lemmas.Result.{err_from_is_err_and}
use Rattle.dz_step.proofs.StepAnswers.{derivative_refused}
use Rattle.dz_step.proofs.stepping.reduction_by_derivative.Goals as goal

pub returns-in_err-rest-clause-refused : goal.returns-in_err-rest-clause-refused
returns-in_err-rest-clause-refused c =
    let y = err_from_is_err_and c.from_residual-in_err-rest.result c.from_residual-in_err-rest.ensures.1 in
    rw (y.1, y.2)
    (derivative_refused c.args.ranking.now c.args.f.now.terms c.args.q.now.terms c.args.operator c.args.lead c.args.v c.requires.leads c.requires.derivative c.requires.proper c.degree.result c.in_ok-derivative.derivative.terms c.in_ok-separant.separant.terms _ c.degree.ensures c.if-degree-eq0.false c.in_ok-derivative.ensures.ok c.in_ok-separant.ensures.ok c.in_err-rest.ensures.refused)
