use Rattle.dz_domain.proofs.PointValues.{independent_not_constant}
use Rattle.dz_domain.proofs.laws.independent_is_not_constant.Goals as goal

pub returns : goal.returns
returns g c = λ rate law. independent_not_constant c.args.book.now.ranking g.D.Domain.laws c.is_point.ensures c.requires.fits rate c.args.i c.requires.below law
