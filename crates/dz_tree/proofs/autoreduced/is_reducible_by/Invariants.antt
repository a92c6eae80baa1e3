use Rattle.std.proofs.Common.{◌≡◌, ◌+◌, drop}
use Rattle.dz_monomials.specs.Ranked.{symbols_under}
use Rattle.dz_diff.specs.States.{polynomials}
use Rattle.dz_tree.specs.Chain.{reducible_by}
use Rattle.dz_tree.proofs.autoreduced.is_reducible_by.Given as goal

abbrev pub invariant-places : goal.invariant-places
invariant-places l =
    reducible_by (symbols_under l.book.ranking) l.place (l.k + 1) l.f.terms (polynomials l.book (drop l.k l.polys))
    ≡ reducible_by (symbols_under l.book.ranking) l.place 1 l.f.terms (polynomials l.book l.polys)
