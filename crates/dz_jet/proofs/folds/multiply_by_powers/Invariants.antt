use Rattle.std.proofs.Common.{◌≡◌, drop}
use Rattle.dz_poly.specs.Books.{polynomial, term_at}
use Rattle.dz_monomials.specs.Ranked.{symbols_under}
use Rattle.dz_jet.specs.Jets.{term_value, value_in}
use Rattle.dz_jet.proofs.folds.multiply_by_powers.Given as goal

abbrev pub invariant-loop-j : goal.invariant-loop-j
invariant-loop-j l = term_value (value_in (symbols_under l.book.ranking) l.values) (drop l.j (term_at (polynomial l.book l.p) l.k).0) l.product ≡ term_value (value_in (symbols_under l.fn.book.ranking) l.fn.values) (term_at (polynomial l.fn.book l.fn.p) l.fn.k).0 l.fn.x
