use Rattle.std.proofs.Common.{ap}
use Rattle.dz_check.specs.Pending.{PendingValue}
use Rattle.dz_check.proofs.ChainWalks.{one_marked}
use Rattle.dz_check.proofs.taking.mark_all.Goals as goal

pub loop-pending-preserved : goal.loop-pending-preserved
loop-pending-preserved c =
    one_marked c.args.mark c.loop-pending.pending-index c.deref_mut-pending-items.result.now c.loop-pending.pending-items c.pending.inside.state c.pending-item.result c.loop-pending-test.true c.loop-pending.invariant
    (ap (λ (p : PendingValue). p.state) c.pending.view_is)
