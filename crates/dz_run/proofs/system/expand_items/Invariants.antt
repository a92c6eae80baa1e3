use Rattle.std.proofs.Common.{◌≡◌, drop}
use Rattle.dz_poly.specs.Books.{IsKept}
use Rattle.dz_monomials.specs.Ranked.{symbols_under}
use Rattle.dz_diff.specs.States.{LiveAll, polynomials}
use Rattle.dz_run.specs.System.{behind, items_answer}
use Rattle.dz_run.proofs.system.expand_items.Given as goal

abbrev pub invariant-items : goal.invariant-items
invariant-items l = record {
  live : LiveAll l.book l.polys.items;
  same : behind (polynomials l.book l.polys.items) (items_answer (symbols_under l.fn.book.ranking) l.group l.index (drop l.index l.items))
      ≡ items_answer (symbols_under l.fn.book.ranking) l.group 0 l.items;
  kept : IsKept l.fn.book l.book;
}
