use Rattle.std.proofs.Common.{◌+◌, length}
use Rattle.std.specs.Ordering.{nat_cmp}
use Rattle.std.specs.Cmp.Lexicographic.{slice_cmp}
use Rattle.dz_algebra.specs.Gather.{merge}
use Rattle.dz_monomials.specs.Cells.{add_capped}
use Rattle.dz_cells.specs.Runs.{cells_of}
use Rattle.dz_cells.proofs.Merged.{IsPassing}
use Rattle.dz_cells.proofs.merging.put_merged.Given as goal

-- what is written, and what both runs have left
abbrev pub invariant-cells : goal.invariant-cells
invariant-cells l = IsPassing l.width (merge (slice_cmp nat_cmp) add_capped (cells_of l.width l.fn.a_rows l.fn.a_tallies) (cells_of l.width l.fn.b_rows l.fn.b_tallies)) l.fn.rows l.rows l.fn.tallies l.tallies l.a_rows l.a_tallies l.b_rows l.b_tallies

abbrev pub decreases-cells : goal.decreases-cells
decreases-cells l = length l.a_tallies + length l.b_tallies
