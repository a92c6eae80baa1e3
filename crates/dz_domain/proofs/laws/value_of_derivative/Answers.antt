use Rattle.dz_poly.specs.Books.{polynomial}
use Rattle.dz_domain.proofs.PointValues.{value_of_derivative}
use Rattle.dz_domain.proofs.laws.value_of_derivative.Goals as goal

pub returns : goal.returns
returns g c =
    let book = c.args.book.now in
    value_of_derivative book.ranking g.D.Domain.laws c.is_point.ensures c.requires.fits c.args.i c.requires.below (polynomial book c.args.a)
