use Rattle.dz_lane.proofs.Masks.{sums_fit}
use Rattle.dz_lane.proofs.lanes.wide_sums.Goals as goal

pub overflow_add-result : goal.overflow_add-result
overflow_add-result c = sums_fit c.args.a c.args.b c.requires
