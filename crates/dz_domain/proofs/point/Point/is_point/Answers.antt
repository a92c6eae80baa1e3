use Rattle.dz_domain.proofs.point.Point.is_point.Goals as goal

pub returns : goal.returns
returns g c = rw (← c.self.view_is) c.self.invariant
