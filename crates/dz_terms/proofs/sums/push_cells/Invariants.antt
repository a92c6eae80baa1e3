use Rattle.std.proofs.Common.{◌≡◌, ◌++◌, take}
use Rattle.dz_algebra.specs.Amount.{amounts}
use Rattle.dz_monomials.specs.Cells.{caps}
use Rattle.dz_monomials.specs.Signs.{with_sign}
use Rattle.dz_terms.proofs.sums.push_cells.Given as goal

abbrev pub invariant-loop-term : goal.invariant-loop-term
invariant-loop-term l = l.cells.items ≡ l.initial.cells.items ++ caps (amounts (with_sign l.sign (take l.term-index l.terms)))
