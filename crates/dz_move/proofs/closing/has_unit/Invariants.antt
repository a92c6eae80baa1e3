use Rattle.std.proofs.Common.{◌≡◌, drop}
use Rattle.dz_monomials.specs.Ranked.{symbols_under}
use Rattle.dz_diff.specs.Tests.{has_unit}
use Rattle.dz_diff.specs.States.{polynomials}
use Rattle.dz_move.proofs.closing.has_unit.Given as goal

abbrev pub invariant-polys : goal.invariant-polys
invariant-polys l = has_unit (symbols_under l.book.ranking) (polynomials l.book (drop l.p-index l.polys)) ≡ has_unit (symbols_under l.book.ranking) (polynomials l.book l.polys)
