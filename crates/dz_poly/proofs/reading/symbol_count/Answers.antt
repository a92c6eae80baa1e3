use Rattle.std.proofs.Common.{◌∙◌, length, ap}
use Rattle.dz_poly.specs.Books.{symbols_of}
use Rattle.dz_poly.proofs.ReadingBooks.{symbols_counted}
use Rattle.dz_poly.proofs.reading.symbol_count.Goals as goal

pub returns : goal.returns
returns c =
    ap length c.symbol_degrees.ensures
    ∙ symbols_counted c.args.book.now.ranking c.entry.result.now.terms c.entry.result.now.degrees c.entry.ensures.entry
    ∙ ap (λ p. length (symbols_of c.args.book.now.ranking p)) c.entry.ensures.value
