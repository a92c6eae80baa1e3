use Rattle.std.proofs.Common.{length}
use Rattle.dz_monomials.proofs.rows.+rows_cells.Given as goal

abbrev pub decreases-rows_cells : goal.decreases-rows_cells
decreases-rows_cells l = length l.rates.now
