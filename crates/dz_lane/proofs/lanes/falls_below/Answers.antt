use Rattle.std.proofs.Common.{◌∙◌, sym, arith, nat_lt}
use Rattle.dz_lane.proofs.Masks.{compared_said}
use Rattle.dz_lane.proofs.lanes.falls_below.Goals as goal

pub returns : goal.returns
returns c = compared_said (λ x y. nat_lt x y) c.args.a c.args.b (c.fits-a.0 ∙ sym c.fits-b.0) (omega (arith, c.fits-a.0))
