use Rattle.std.proofs.Common.{◌≡◌, ◌++◌, drop}
use Rattle.dz_monomials.specs.Ranked.{symbols_under}
use Rattle.dz_diff.specs.States.{polynomials}
use Rattle.dz_pair.proofs.PairLists.{leaders_of}
use Rattle.dz_pair.proofs.listing.leaders.Given as goal

abbrev pub invariant-loop-p : goal.invariant-loop-p
invariant-loop-p l =
    l.table.items ++ leaders_of (symbols_under l.book.ranking) (polynomials l.book (drop l.p-index l.state.equations)) ≡ leaders_of (symbols_under l.book.ranking) (polynomials l.book l.state.equations)
