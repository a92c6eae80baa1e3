use Rattle.std.proofs.Common.{◌∙◌, sym, arith}
use Rattle.dz_lane.proofs.Masks.{sums_pass_said}
use Rattle.dz_lane.proofs.lanes.wide_sums_pass.Goals as goal

pub returns : goal.returns
returns c = sums_pass_said c.args.a c.args.b (c.fits-a.0 ∙ sym c.fits-b.0) (omega (arith, c.fits-a.0)) c.fits-a.1 c.fits-b.1
