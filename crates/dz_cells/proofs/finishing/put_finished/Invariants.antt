use Rattle.std.proofs.Common.{length}
use Rattle.dz_cells.specs.Rows.{kept_rows}
use Rattle.dz_cells.specs.Runs.{cells_of}
use Rattle.dz_cells.proofs.Finished.{IsKeeping}
use Rattle.dz_cells.proofs.finishing.put_finished.Given as goal

-- what is kept so far, and what is left
abbrev pub invariant-cells : goal.invariant-cells
invariant-cells l = IsKeeping l.width (kept_rows (cells_of l.width l.fn.from_rows l.fn.from_tallies)) l.fn.rows l.rows l.fn.coefficients l.coefficients l.from_rows l.from_tallies

abbrev pub decreases-cells : goal.decreases-cells
decreases-cells l = length l.from_tallies
