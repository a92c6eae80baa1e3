use Rattle.std.proofs.Common.{arith}
use Rattle.dz_rank.specs.Rankings.{ranking_cmp}
use Rattle.dz_monomials.proofs.PowerCoefficients.{power_more}
use Rattle.dz_monomials.proofs.powers.with_exponent.Goals as goal

pub loop-power-preserved : goal.loop-power-preserved
loop-power-preserved c =
    rw (c.in_ok-push_power.ensures, c.loop-power.invariant)
    (power_more (ranking_cmp c.args.ranking.now) c.args.symbol c.args.left c.args.powers.now c.loop-power.power-index _ (omega arith))
