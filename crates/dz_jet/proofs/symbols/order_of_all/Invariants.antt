use Rattle.std.proofs.Common.{◌≡◌, drop}
use Rattle.dz_monomials.specs.Ranked.{symbols_under}
use Rattle.dz_diff.specs.States.{polynomials}
use Rattle.dz_jet.specs.Jets.{order_of_all}
use Rattle.dz_jet.proofs.symbols.order_of_all.Given as goal

abbrev pub invariant-loop-i : goal.invariant-loop-i
invariant-loop-i l = order_of_all (symbols_under l.book.ranking) (drop l.i (polynomials l.book l.polys)) l.order ≡ order_of_all (symbols_under l.fn.book.ranking) (polynomials l.fn.book l.fn.polys) l.fn.least
