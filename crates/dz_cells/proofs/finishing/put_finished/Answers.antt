use Rattle.std.proofs.Common.{rules}
use Rattle.std.specs.Prelude.{FitsSigned}
use Rattle.std.specs.Int.{w128}
use Rattle.std.proofs.lemmas.Int.{to_z-of_z}
use Rattle.dz_cells.proofs.Merged.{first_of, has_row}
use Rattle.dz_cells.proofs.Finished.{begun_keeping, kept_one}
use Rattle.dz_cells.proofs.finishing.put_finished.Goals as goal

pub cells-init : goal.cells-init
cells-init c = begun_keeping c.args.width c.args.rows.now c.args.coefficients.now c.args.from_rows.now c.args.from_tallies.now c.requires.are_rows c.requires.room_for_rows c.requires.room_for_coefficients

pub split_at-requires : goal.split_at-requires
split_at-requires c = has_row c.args.width c.cells.from_rows.now c.cells.from_tallies.now c.cells-test.ensures c.cells.invariant.left

pub cells-preserved : goal.cells-preserved
cells-preserved c =
    let fits : FitsSigned w128 c.in-Some.total = search rules in
    rw c.split_at.ensures.back
    (kept_one c.args.width _ c.args.rows.now c.cells.rows _ c.args.coefficients.now c.cells.coefficients _ c.cells.from_rows.now c.cells.from_tallies.now _ _ c.cells.invariant (first_of c.cells.from_tallies.now _ c.cells-test.ensures) c.in-Some.total c.in-Some.ensures (rw (c.split_at.ensures.front, to_z-of_z w128 c.in-Some.total fits) at c.put_kept.ensures.rows) (rw (to_z-of_z w128 c.in-Some.total fits) at c.put_kept.ensures.coefficients))
