use Rattle.dz_lane.proofs.Masks.{increased_said, increased_fit}
use Rattle.dz_lane.proofs.lanes.increased.Goals as goal

pub overflow_add-result : goal.overflow_add-result
overflow_add-result c = increased_fit c.args.sums c.args.a c.requires

pub returns : goal.returns
returns c = increased_said c.args.sums c.args.a c.fits-sums.0 c.fits-a.0
