use Rattle.dz_lane.proofs.Masks.{total_said}
use Rattle.std.proofs.Common.{arith}
use Rattle.std.proofs.lemmas.Simd.{sum_fits}
use mir.Syntax.{w32}
use Rattle.dz_lane.proofs.lanes.total.Goals as goal

pub overflow_add-result : goal.overflow_add-result
overflow_add-result c = sum_fits w32 0 c.args.sums (omega (arith, c.requires))

pub returns : goal.returns
returns c = total_said c.args.sums
