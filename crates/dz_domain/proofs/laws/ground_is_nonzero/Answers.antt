use Rattle.dz_poly.specs.Books.{polynomial}
use Rattle.dz_domain.proofs.PointValues.{keepable, ground_value}
use Rattle.dz_domain.proofs.laws.ground_is_nonzero.Goals as goal

pub returns : goal.returns
returns g c =
    let book = c.args.book.now in
    let kept = keepable book c.args.p c.opened.ensures c.requires.lives in
    ground_value book.ranking g.D.Domain.laws c.is_point.ensures c.requires.fits (polynomial book c.args.p) kept.canonical kept.belongs c.requires.no_derivative c.requires.nonzero
