use Rattle.std.proofs.Common.{length}
use Rattle.dz_terms.proofs.products.+product_cells.Given as goal

abbrev pub decreases-product_cells : goal.decreases-product_cells
decreases-product_cells l = length l.p.now
