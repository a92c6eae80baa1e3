use Rattle.std.proofs.Common.{◌≡◌, drop}
use Rattle.std.specs.Prelude.{pos}
use Rattle.dz_poly.specs.Books.{polynomial}
use Rattle.dz_monomials.specs.Ranked.{symbols_under}
use Rattle.dz_jet.specs.Fractions.{whole}
use Rattle.dz_jet.specs.Jets.{value_from, value_in}
use Rattle.dz_jet.proofs.folds.evaluate.Given as goal

abbrev pub invariant-loop-k : goal.invariant-loop-k
invariant-loop-k l =
    value_from (value_in (symbols_under l.book.ranking) l.values) (drop l.k (polynomial l.book l.p)) l.sum ≡ value_from (value_in (symbols_under l.fn.book.ranking) l.fn.values) (polynomial l.fn.book l.fn.p) (whole (pos 0))
