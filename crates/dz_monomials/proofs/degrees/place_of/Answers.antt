use Rattle.std.proofs.Common.{arith}
use Rattle.dz_rank.specs.Rankings.{ranking_cmp}
use Rattle.dz_monomials.proofs.Places.{there}
use Rattle.dz_monomials.proofs.degrees.place_of.Goals as goal

pub returns-in-Equal-clause-found : goal.returns-in-Equal-clause-found
returns-in-Equal-clause-found c e =
    there (ranking_cmp c.args.ranking.now) c.args.symbol e (c.args.symbol, 0) _ c.loop-place.place c.args.table.now (omega arith) c.in-Equal.ensures (c.loop-place.invariant.passed e)
