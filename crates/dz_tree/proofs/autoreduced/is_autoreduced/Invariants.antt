use Rattle.std.proofs.Common.{◌≡◌, ◌+◌, drop}
use Rattle.dz_monomials.specs.Ranked.{symbols_under}
use Rattle.dz_diff.specs.States.{polynomials}
use Rattle.dz_tree.specs.Chain.{autoreduced_from, is_autoreduced}
use Rattle.dz_tree.proofs.autoreduced.is_autoreduced.Given as goal

abbrev pub invariant-places : goal.invariant-places
invariant-places l =
    autoreduced_from (symbols_under l.book.ranking) (polynomials l.book l.polys) (l.k + 1) (polynomials l.book (drop l.k l.polys)) ≡ is_autoreduced (symbols_under l.book.ranking) (polynomials l.book l.polys)
