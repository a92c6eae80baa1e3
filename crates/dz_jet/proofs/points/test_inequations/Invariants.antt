use Rattle.std.proofs.Common.{◌≡◌, ◌+◌, drop}
use Rattle.dz_monomials.specs.Ranked.{symbols_under}
use Rattle.dz_diff.specs.States.{polynomials}
use Rattle.dz_jet.specs.Jets.{test_inequations, value_in}
use Rattle.dz_jet.proofs.points.test_inequations.Given as goal

abbrev pub invariant-loop-i : goal.invariant-loop-i
invariant-loop-i l =
    test_inequations (value_in (symbols_under l.book.ranking) l.values) (l.i + 1) (drop l.i (polynomials l.book l.inequations)) ≡ test_inequations (value_in (symbols_under l.fn.book.ranking) l.fn.values) 1 (polynomials l.fn.book l.fn.inequations)
