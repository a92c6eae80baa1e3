use Rattle.std.proofs.Common.{◌≡◌, drop}
use Rattle.std.specs.List.{list_all}
use Rattle.dz_monomials.specs.Ranked.{symbols_under}
use Rattle.dz_diff.specs.States.{polynomials}
use Rattle.dz_tree.specs.Chain.{is_free_of}
use Rattle.dz_tree.proofs.inequations.is_free_of_all.Given as goal

abbrev pub invariant-polys : goal.invariant-polys
invariant-polys l =
    list_all (is_free_of (symbols_under l.book.ranking) l.h.terms) (polynomials l.book (drop l.p-index l.polys))
    ≡ list_all (is_free_of (symbols_under l.book.ranking) l.h.terms) (polynomials l.book l.polys)
