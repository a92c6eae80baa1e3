use Rattle.std.proofs.Common.{◌≡◌, drop}
use Rattle.dz_poly.specs.Books.{polynomial}
use Rattle.dz_monomials.specs.Ranked.{symbols_under}
use Rattle.dz_jet.specs.Jets.{order_of}
use Rattle.dz_jet.proofs.symbols.order_of.Given as goal

abbrev pub invariant-loop-k : goal.invariant-loop-k
invariant-loop-k l = order_of (symbols_under l.book.ranking) (drop l.k (polynomial l.book l.p)) l.order ≡ order_of (symbols_under l.fn.book.ranking) (polynomial l.fn.book l.fn.p) l.fn.least
