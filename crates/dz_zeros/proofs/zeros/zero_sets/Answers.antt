use Rattle.dz_zeros.proofs.BookZeros.{tree_in_book}
use Rattle.dz_zeros.proofs.zeros.zero_sets.Goals as goal

pub returns : goal.returns
returns g c = tree_in_book g.D.Domain.laws c.args.at.now c.is_point.ensures c.args.book.now c.opened.ensures c.requires.fits c.args.system.now c.args.tree.now c.requires.system c.requires.certified
