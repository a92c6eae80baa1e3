use Rattle.std.proofs.Common.{◌∙◌, sym, arith, nat_eq}
use mathlib.Core.Bool.{not}
use Rattle.dz_lane.proofs.Masks.{compared_said}
use Rattle.dz_lane.proofs.lanes.differs.Goals as goal

pub returns : goal.returns
returns c = compared_said (λ x y. not (nat_eq x y)) c.args.a c.args.b (c.fits-a.0 ∙ sym c.fits-b.0) (omega (arith, c.fits-a.0))
