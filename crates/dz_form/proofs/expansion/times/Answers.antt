use Rattle.std.proofs.lemmas.Result.{err_from_is_err_and}
use Rattle.dz_monomials.specs.Ranked.{symbols_under}
use Rattle.dz_form.proofs.Times.{times_refused}
use Rattle.dz_form.proofs.expansion.times.Goals as goal

pub returns-in_err-all-2 : goal.returns-in_err-all-2
returns-in_err-all-2 c =
    let y = err_from_is_err_and c.from_residual-in_err-all-2.result c.from_residual-in_err-all-2.ensures.1 in
    rw (y.1, y.2) (times_refused (symbols_under c.args.ranking.now) c.args.base.now.terms _ c.args.count c.factors.counter c.factors.all.terms _ c.factors-test.true c.in_err-all-2.ensures c.factors.invariant.rest)
