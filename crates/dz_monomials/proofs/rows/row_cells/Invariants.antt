use Rattle.std.proofs.Common.{◌≡◌, take, false}
use Rattle.dz_algebra.specs.Amount.{amounts}
use Rattle.dz_rank.specs.Rankings.{ranking_cmp}
use Rattle.dz_monomials.specs.Cells.{caps}
use Rattle.dz_monomials.specs.Degrees.{degrees, has_high_exponent}
use Rattle.dz_monomials.specs.Rows.{row}
use Rattle.dz_monomials.proofs.rows.row_cells.Given as goal

abbrev pub invariant-loop-term : goal.invariant-loop-term
invariant-loop-term l = record {
  cells_are : l.cells.items ≡ caps (amounts (row (ranking_cmp l.ranking) l.symbol l.rate (take l.term-index l.terms)));
  low : has_high_exponent (degrees (ranking_cmp l.ranking) (row (ranking_cmp l.ranking) l.symbol l.rate (take l.term-index l.terms))) ≡ false;
}
