use Rattle.std.proofs.Common.{◌≡◌, length}
use Rattle.dz_cells.specs.Rows.{rows_with}
use Rattle.dz_cells.proofs.Contributed.{IsMultiplying}
use Rattle.dz_cells.proofs.contributions.put_products.Given as goal

-- products that are written, and terms that are left
abbrev pub invariant-terms : goal.invariant-terms
invariant-terms l = record {
  buffer : length l.sums ≡ 64;
  multiplying : IsMultiplying l.row l.coefficient (rows_with (length l.row) l.fn.b_rows l.fn.b_coefficients) l.fn.rows l.rows l.fn.tallies l.tallies l.b_rows l.b_coefficients;
}

abbrev pub decreases-terms : goal.decreases-terms
decreases-terms l = length l.b_coefficients
