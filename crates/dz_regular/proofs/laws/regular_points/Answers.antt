use Rattle.dz_diff.specs.States.{state_in}
use Rattle.dz_regular.proofs.RowPoints.{none_vanishes}
use Rattle.dz_regular.proofs.laws.regular_points.Goals as goal

pub returns : goal.returns
returns g c = none_vanishes c.args.book.now.ranking g.D.Domain.laws c.is_point.ensures c.args.book.now (state_in c.args.book.now c.args.chain.now).equations (state_in c.args.book.now c.args.chain.now).inequations c.args.rows.now c.requires.rows
