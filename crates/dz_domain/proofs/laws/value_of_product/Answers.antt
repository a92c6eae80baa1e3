use Rattle.dz_poly.specs.Books.{polynomial}
use Rattle.dz_domain.proofs.PointValues.{value_of_product}
use Rattle.dz_domain.proofs.laws.value_of_product.Goals as goal

pub returns : goal.returns
returns g c =
    let book = c.args.book.now in
    value_of_product book.ranking g.D.Domain.laws c.is_point.ensures (polynomial book c.args.a) (polynomial book c.args.b)
