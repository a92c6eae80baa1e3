use Rattle.std.proofs.Common.{◌≡◌, drop}
use Rattle.dz_monomials.specs.Ranked.{symbols_under}
use Rattle.dz_diff.specs.States.{polynomials}
use Rattle.dz_diff.specs.Tests.{same_all}
use Rattle.dz_move.proofs.moves.are_same.Given as goal

abbrev pub invariant-places : goal.invariant-places
invariant-places l =
    same_all (symbols_under l.book.ranking) (polynomials l.book (drop l.k l.polys)) (polynomials l.book (drop l.k l.others)) ≡ same_all (symbols_under l.book.ranking) (polynomials l.book l.polys) (polynomials l.book l.others)
