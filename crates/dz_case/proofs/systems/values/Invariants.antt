use Rattle.dz_poly.specs.Books.{IsKept}
use Rattle.dz_diff.specs.States.{LiveAll}
use Rattle.dz_case.proofs.systems.values.Given as goal

abbrev pub invariant-items : goal.invariant-items
invariant-items l = record {
  live : LiveAll l.book l.polys.items;
  kept : IsKept l.fn.book l.book;
}
