use Rattle.std.proofs.Common.{◌≡◌, ◌++◌, length}
use Rattle.std.specs.Option.{option_map}
use Rattle.dz_monomials.specs.Cells.{finished}
use Rattle.dz_monomials.proofs.finish.finished_terms.Given as goal

abbrev pub invariant-loop-cell : goal.invariant-loop-cell
invariant-loop-cell l = finished l.initial.cells.items ≡ option_map (λ p. l.terms.items ++ p) (finished l.cells.items)

abbrev pub decreases-loop-cell : goal.decreases-loop-cell
decreases-loop-cell l = length l.cells.items
