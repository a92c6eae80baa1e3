use Rattle.std.proofs.lemmas.Result.{err_from_is_err_and}
use Rattle.dz_step.proofs.StepAnswers.{occurs, itself_ok, itself_refused}
use Rattle.dz_step.proofs.stepping.reduction_by_itself.Goals as goal

pub reduced-requires-clause-occurs : goal.reduced-requires-clause-occurs
reduced-requires-clause-occurs c =
    occurs c.args.ranking.now c.args.f.now.terms c.args.q.now.terms c.args.operator c.args.lead c.args.v c.requires.leads c.requires.derivative c.requires.improper c.requires.q.keepable.canonical c.degree.result c.degree-e.result c.degree-e.ensures c.degree.ensures c.if-degree-e.false

pub returns-in_err-rest-clause-refused : goal.returns-in_err-rest-clause-refused
returns-in_err-rest-clause-refused c =
    let y = err_from_is_err_and c.from_residual-in_err-rest.result c.from_residual-in_err-rest.ensures.1 in
    rw (y.1, y.2)
    (itself_refused c.args.ranking.now c.args.f.now.terms c.args.q.now.terms c.args.operator c.args.lead c.args.v c.requires.leads c.requires.derivative c.requires.improper c.requires.q.keepable.canonical c.degree.result c.degree-e.result c.in_ok-initial.initial.terms _ c.degree-e.ensures c.degree.ensures c.if-degree-e.false c.in_ok-initial.ensures.terms c.in_err-rest.ensures.refused)

pub returns-clause-ok : goal.returns-clause-ok
returns-clause-ok c =
    itself_ok c.args.ranking.now c.args.f.now.terms c.args.q.now.terms c.args.operator c.args.lead c.args.v c.requires.leads c.requires.derivative c.requires.improper c.requires.q.keepable.canonical c.degree.result c.degree-e.result c.in_ok-initial.initial.terms _ c.degree-e.ensures c.degree.ensures c.if-degree-e.false c.in_ok-initial.ensures.terms c.in_ok-rest.ensures.ok
