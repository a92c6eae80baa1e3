use Rattle.std.proofs.Common.{◌≡◌, ◌++◌, ◌+◌, length}
use Rattle.dz_algebra.specs.Monomial.{monomial_cmp}
use Rattle.dz_algebra.specs.Gather.{merge}
use Rattle.dz_monomials.specs.Cells.{add_capped}
use Rattle.dz_rank.specs.Rankings.{ranking_cmp}
use Rattle.dz_monomials.proofs.absorbing.absorb.Given as goal

abbrev pub invariant-loop-cell : goal.invariant-loop-cell
invariant-loop-cell l = l.all.items ++ merge (monomial_cmp (ranking_cmp l.ranking)) add_capped l.cells.items l.row.items ≡ merge (monomial_cmp (ranking_cmp l.ranking)) add_capped l.initial.cells.items l.initial.row.items

abbrev pub decreases-loop-cell : goal.decreases-loop-cell
decreases-loop-cell l = length l.cells.items + length l.row.items
