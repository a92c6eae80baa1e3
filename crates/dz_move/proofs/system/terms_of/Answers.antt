use Rattle.dz_move.proofs.SystemTerms.{terms_done}
use Rattle.dz_move.proofs.system.terms_of.Goals as goal

pub returns : goal.returns
returns c = terms_done c.args.book.now c.args.polys.now c.polys.p-index c.polys.terms c.polys-test.false c.polys.invariant.fits c.polys.invariant.same
