use Rattle.std.proofs.Common.{map, take}
use Rattle.dz_diff.specs.States.{MeanAll}
use Rattle.dz_poly.specs.Books.{IsKept}
use Rattle.dz_rank.specs.Rankings.{ranking_cmp}
use Rattle.dz_sample.specs.Equations.{equation_polynomial}
use Rattle.dz_sample.proofs.system.equation_polys.Given as goal

-- the polynomials of the equations so far
abbrev pub invariant-equations : goal.invariant-equations
invariant-equations l = record {
  means : MeanAll l.book l.polys.items (map (equation_polynomial (ranking_cmp l.fn.book.ranking)) (take l.equation-index l.equations));
  kept : IsKept l.fn.book l.book;
}
