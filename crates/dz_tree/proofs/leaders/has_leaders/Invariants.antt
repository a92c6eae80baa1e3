use Rattle.std.proofs.Common.{◌≡◌, drop}
use Rattle.dz_monomials.specs.Ranked.{symbols_under}
use Rattle.dz_diff.specs.States.{polynomials}
use Rattle.dz_tree.specs.Chain.{has_leaders}
use Rattle.dz_tree.proofs.leaders.has_leaders.Given as goal

abbrev pub invariant-places : goal.invariant-places
invariant-places l = has_leaders (symbols_under l.book.ranking) (polynomials l.book (drop l.k l.polys)) ≡ has_leaders (symbols_under l.book.ranking) (polynomials l.book l.polys)
