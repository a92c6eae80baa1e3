use Rattle.dz_poly.proofs.Books.{book_of}
use Rattle.dz_poly.proofs.book.Book.opened.Goals as goal

pub returns : goal.returns
returns c = rw (← c.self.view_is) (book_of _ _ c.self.invariant)
