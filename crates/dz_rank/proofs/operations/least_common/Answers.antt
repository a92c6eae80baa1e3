use Rattle.dz_rank.proofs.CommonDerivatives.{found_least}
use Rattle.dz_rank.proofs.operations.least_common.Goals as goal

pub returns-else-order-gt-GREATEST_ORDER-clause-least : goal.returns-else-order-gt-GREATEST_ORDER-clause-least
returns-else-order-gt-GREATEST_ORDER-clause-least c =
    let d = c.in-Derivative-Derivative in
    rw (d.is-0, d.is-1) (found_least d.u d.v d.s d.t c.least_multiple-operator.result c.if-u-v.true c.least_multiple-operator.ensures)
