use Rattle.std.proofs.Common.{◌≡◌, drop, suc}
use Rattle.dz_monomials.specs.Ranked.{symbols_under}
use Rattle.dz_diff.specs.States.{polynomials}
use Rattle.dz_jet.specs.Jets.{leading_to}
use Rattle.dz_jet.proofs.leading.leading_to.Given as goal

abbrev pub invariant-loop-i : goal.invariant-loop-i
invariant-loop-i l =
    leading_to (symbols_under l.book.ranking) l.w (suc l.i) (drop l.i (polynomials l.book l.equations)) ≡ leading_to (symbols_under l.fn.book.ranking) l.fn.w 1 (polynomials l.fn.book l.fn.equations)
