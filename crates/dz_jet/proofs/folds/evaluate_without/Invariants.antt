use Rattle.std.proofs.Common.{◌≡◌, drop}
use Rattle.std.specs.Prelude.{pos}
use Rattle.dz_algebra.specs.Parts.{coefficient_of}
use Rattle.dz_poly.specs.Books.{polynomial}
use Rattle.dz_rank.specs.Rankings.{ranking_cmp}
use Rattle.dz_monomials.specs.Ranked.{symbols_under}
use Rattle.dz_jet.specs.Fractions.{whole}
use Rattle.dz_jet.specs.Jets.{value_from, value_in}
use Rattle.dz_jet.proofs.folds.evaluate_without.Given as goal

abbrev pub invariant-loop-k : goal.invariant-loop-k
invariant-loop-k l =
    value_from (value_in (symbols_under l.book.ranking) l.values) (coefficient_of (ranking_cmp l.book.ranking) l.w 0 (drop l.k (polynomial l.book l.p))) l.sum
    ≡ value_from (value_in (symbols_under l.fn.book.ranking) l.fn.values) (coefficient_of (ranking_cmp l.fn.book.ranking) l.fn.w 0 (polynomial l.fn.book l.fn.p)) (whole (pos 0))
