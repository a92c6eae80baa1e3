use Rattle.dz_lane.proofs.Masks.{none_below}
use Rattle.dz_lane.proofs.lanes.wide_differences.Goals as goal

pub overflow_sub-result : goal.overflow_sub-result
overflow_sub-result c = none_below c.args.a c.args.b c.requires
