use Rattle.std.proofs.Common.{◌≡◌, take}
use Rattle.dz_algebra.specs.Polynomial.{term_times}
use Rattle.dz_algebra.specs.Amount.{amounts}
use Rattle.dz_monomials.specs.Cells.{caps}
use Rattle.dz_rank.specs.Rankings.{ranking_cmp}
use Rattle.dz_terms.proofs.products.row_cells.Given as goal

abbrev pub invariant-loop-other : goal.invariant-loop-other
invariant-loop-other l = l.cells.items ≡ caps (amounts (term_times (ranking_cmp l.ranking) l.term.0 l.term.1 (take l.other-index l.q)))
