use Rattle.std.proofs.Common.{◌≡◌, take}
use Rattle.dz_poly.specs.Books.{IsKept}
use Rattle.dz_diff.specs.States.{LiveAll, polynomials}
use Rattle.dz_regular.specs.Working.{polynomials_of}
use Rattle.dz_regular.proofs.runs.kept_polys.Given as goal

abbrev pub invariant-entries : goal.invariant-entries
invariant-entries l = record {
  live : LiveAll l.book l.all.items;
  are : polynomials l.book l.all.items ≡ polynomials_of (take l.entry-index l.entries);
  kept : IsKept l.fn.book l.book;
}
