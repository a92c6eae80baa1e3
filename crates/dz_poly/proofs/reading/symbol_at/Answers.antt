use Rattle.std.proofs.Common.{◌<◌, length, arith}
use Rattle.dz_poly.specs.Books.{symbols_of}
use Rattle.dz_poly.proofs.ReadingBooks.{symbols_counted, symbol_stands}
use Rattle.dz_poly.proofs.reading.symbol_at.Goals as goal

pub bounds-symbol_degrees-j : goal.bounds-symbol_degrees-j
bounds-symbol_degrees-j c =
    let inside : c.args.j < length (symbols_of c.args.book.now.ranking c.entry.result.now.terms) = rw c.entry.ensures.value c.requires.inside in
    rw c.symbol_degrees.ensures (omega (arith, inside, symbols_counted c.args.book.now.ranking c.entry.result.now.terms c.entry.result.now.degrees c.entry.ensures.entry))

pub returns : goal.returns
returns c =
    let inside : c.args.j < length (symbols_of c.args.book.now.ranking c.entry.result.now.terms) = rw c.entry.ensures.value c.requires.inside in
    rw (← c.entry.ensures.value, c.symbol_degrees.ensures) (symbol_stands c.args.book.now.ranking c.entry.result.now.terms c.entry.result.now.degrees c.args.j _ c.entry.ensures.entry (omega (arith, inside, symbols_counted c.args.book.now.ranking c.entry.result.now.terms c.entry.result.now.degrees c.entry.ensures.entry)))
