use Rattle.std.proofs.Common.{arith}
use Rattle.std.proofs.lemmas.Result.{err_from_is_err_and}
use Rattle.dz_monomials.specs.Ranked.{symbols_under}
use Rattle.dz_diff.proofs.OperatorAnswers.{iterated_refused}
use Rattle.dz_diff.proofs.operators.iterated.Goals as goal

pub returns-in_err-entry : goal.returns-in_err-entry
returns-in_err-entry c =
    let y = err_from_is_err_and c.from_residual.result c.from_residual.ensures.1 in
    rw (y.1, y.2)
    (iterated_refused (symbols_under c.args.ranking.now) c.args.i c.loop-time._time c.args.times c.args.entry.terms c.loop-time.entry.terms _ c.loop-time.invariant.answer (omega arith) c.in_err-entry.ensures)
