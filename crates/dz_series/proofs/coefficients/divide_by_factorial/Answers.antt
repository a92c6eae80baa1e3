use Rattle.std.proofs.Common.{◌∙◌, ◌+◌, sym, arith}
use Rattle.dz_series.proofs.SeriesCoefficients.{divisor_is, factor_more, factors_stop}
use Rattle.dz_series.proofs.coefficients.divide_by_factorial.Goals as goal

pub returns-in_err-quotient : goal.returns-in_err-quotient
returns-in_err-quotient c =
    let i = c.loop-i.i in
    let divisor = divisor_is c.new-divisor.result c.from.result i (omega (arith, c.loop-i-test.true, c.ranges.k.fits)) c.new-divisor.ensures.fraction c.from.ensures c.new-divisor.ensures.value in
    let more = factor_more i c.args.x c.loop-i.quotient c.new-divisor.result c.div.result c.loop-i.invariant c.numerator-in-loop-i.ensures.fraction.reduced c.numerator-in-loop-i-2.ensures.fraction.reduced divisor c.div.ensures in
    c.from_residual.ensures ∙ sym (factors_stop (i + 1) c.args.k c.args.x (omega (arith, c.loop-i-test.true)) (more ∙ c.in_err-quotient.was))

pub loop-i-preserved : goal.loop-i-preserved
loop-i-preserved c =
    let i = c.loop-i.i in
    let divisor = divisor_is c.new-divisor.result c.from.result i (omega (arith, c.loop-i-test.true, c.ranges.k.fits)) c.new-divisor.ensures.fraction c.from.ensures c.new-divisor.ensures.value in
    factor_more i c.args.x c.loop-i.quotient c.new-divisor.result c.div.result c.loop-i.invariant c.numerator-in-loop-i.ensures.fraction.reduced c.numerator-in-loop-i-2.ensures.fraction.reduced divisor c.div.ensures ∙ c.in_ok-quotient.was
