use Rattle.std.proofs.Common.{◌≡◌, ◌++◌, drop}
use Rattle.dz_monomials.specs.Ranked.{symbols_under}
use Rattle.dz_diff.specs.States.{polynomials}
use Rattle.dz_parametric.specs.Parametric.{leaders_of}
use Rattle.dz_parametric.proofs.leaders.leaders.Given as goal

abbrev pub invariant-loop-p : goal.invariant-loop-p
invariant-loop-p l =
    l.leaders.items ++ leaders_of (symbols_under l.book.ranking) (polynomials l.book (drop l.p-index l.state.equations)) ≡ leaders_of (symbols_under l.fn.book.ranking) (polynomials l.fn.book l.fn.state.equations)
