use Rattle.std.proofs.Common.{arith}
use Rattle.std.proofs.lemmas.Result.{err_from_is_err_and}
use Rattle.dz_monomials.specs.Ranked.{symbols_under}
use Rattle.dz_solution.proofs.Steps.{factor_stops}
use Rattle.dz_solution.proofs.evaluating.multiplied.Goals as goal

pub returns-in_err-multiple : goal.returns-in_err-multiple
returns-in_err-multiple c =
    let y = err_from_is_err_and c.from_residual.result c.from_residual.ensures.1 in
    rw (y.1, y.2)
    (factor_stops (symbols_under c.args.ranking.now) c.args.value.now.terms c.loop-left.multiple.terms c.loop-left.left _ _ (omega (arith, c.loop-left-test.true)) c.loop-left.invariant.rest c.in_err-multiple.ensures)
