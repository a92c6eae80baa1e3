use Rattle.dz_zeros.proofs.BookZeros.{run_in_book}
use Rattle.dz_zeros.proofs.zeros.run_to_zero.Goals as goal

pub returns : goal.returns
returns g c = run_in_book g.D.Domain.laws c.args.at.now c.is_point.ensures c.args.book.now c.opened.ensures c.requires.fits c.args.chain.now c.args.f c.requires.stands c.requires.lives c.requires.runs c.requires.solved
