use Rattle.std.proofs.Common.{◌≡◌, drop}
use Rattle.dz_poly.specs.Books.{polynomial, term_at}
use Rattle.dz_monomials.specs.Ranked.{symbols_under}
use Rattle.dz_jet.specs.Jets.{order_of_monomial}
use Rattle.dz_jet.proofs.symbols.order_of_term.Given as goal

abbrev pub invariant-loop-j : goal.invariant-loop-j
invariant-loop-j l =
    order_of_monomial (symbols_under l.book.ranking) (drop l.j (term_at (polynomial l.book l.p) l.k).0) l.order ≡ order_of_monomial (symbols_under l.fn.book.ranking) (term_at (polynomial l.fn.book l.fn.p) l.fn.k).0 l.fn.least
