use Rattle.std.proofs.Common.{◌≡◌, drop}
use Rattle.dz_diff.specs.Tests.{has_zero}
use Rattle.dz_diff.specs.States.{polynomials}
use Rattle.dz_move.proofs.closing.has_zero.Given as goal

abbrev pub invariant-polys : goal.invariant-polys
invariant-polys l = has_zero (polynomials l.book (drop l.p-index l.polys)) ≡ has_zero (polynomials l.book l.polys)
