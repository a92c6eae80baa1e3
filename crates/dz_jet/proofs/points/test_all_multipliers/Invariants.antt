use Rattle.std.proofs.Common.{◌≡◌, ◌+◌, ◌++◌, Ok, drop}
use Rattle.dz_poly.specs.Books.{IsKept}
use Rattle.dz_monomials.specs.Ranked.{symbols_under}
use Rattle.dz_algebra.specs.Outcome.{◌>>=◌}
use Rattle.dz_diff.specs.States.{polynomials}
use Rattle.dz_jet.specs.Jets.{test_all_multipliers, value_in}
use Rattle.dz_jet.proofs.points.test_all_multipliers.Given as goal

abbrev pub invariant-loop-i : goal.invariant-loop-i
invariant-loop-i l = record {
  kept : IsKept l.fn.book l.book;
  rest : test_all_multipliers (symbols_under l.fn.book.ranking) (value_in (symbols_under l.fn.book.ranking) l.fn.values) (l.i + 1) (drop l.i (polynomials l.fn.book l.fn.equations)) >>= (λ vs. Ok (l.separants.items ++ vs))
      ≡ test_all_multipliers (symbols_under l.fn.book.ranking) (value_in (symbols_under l.fn.book.ranking) l.fn.values) 1 (polynomials l.fn.book l.fn.equations);
}
