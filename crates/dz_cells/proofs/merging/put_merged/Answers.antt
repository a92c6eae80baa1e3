use Rattle.std.proofs.Common.{sym}
use Rattle.dz_cells.proofs.Merged.{begun_pass, first_ended, first_of, has_row, second_ended, took_both, took_first, took_second}
use Rattle.dz_cells.proofs.merging.put_merged.Goals as goal

pub cells-init : goal.cells-init
cells-init c = begun_pass c.args.width c.args.rows.now c.args.tallies.now c.args.a_rows.now c.args.a_tallies.now c.args.b_rows.now c.args.b_tallies.now c.requires.first c.requires.second c.requires.room_for_rows c.requires.room_for_tallies

pub returns-then-is_empty-clause-are_rows : goal.returns-then-is_empty-clause-are_rows
returns-then-is_empty-clause-are_rows c = (first_ended c.args.width _ c.args.rows.now c.cells.rows _ c.args.tallies.now c.cells.tallies _ _ _ _ _ c.cells.invariant c.if-is_empty.ensures c.push_all.ensures c.push_all-then-is_empty.ensures).0

pub returns-then-is_empty-clause-merged : goal.returns-then-is_empty-clause-merged
returns-then-is_empty-clause-merged c = (first_ended c.args.width _ c.args.rows.now c.cells.rows _ c.args.tallies.now c.cells.tallies _ _ _ _ _ c.cells.invariant c.if-is_empty.ensures c.push_all.ensures c.push_all-then-is_empty.ensures).1

pub returns-then-is_empty-2-clause-are_rows : goal.returns-then-is_empty-2-clause-are_rows
returns-then-is_empty-2-clause-are_rows c = (second_ended c.args.width _ c.args.rows.now c.cells.rows _ c.args.tallies.now c.cells.tallies _ _ _ _ _ c.cells.invariant c.if-is_empty-2.ensures c.push_all-then-is_empty-2.ensures c.push_all-then-is_empty-2-2.ensures).0

pub returns-then-is_empty-2-clause-merged : goal.returns-then-is_empty-2-clause-merged
returns-then-is_empty-2-clause-merged c = (second_ended c.args.width _ c.args.rows.now c.cells.rows _ c.args.tallies.now c.cells.tallies _ _ _ _ _ c.cells.invariant c.if-is_empty-2.ensures c.push_all-then-is_empty-2.ensures c.push_all-then-is_empty-2-2.ensures).1

pub split_at-requires : goal.split_at-requires
split_at-requires c = has_row c.args.width c.cells.a_rows.now c.cells.a_tallies.now c.if-is_empty.ensures c.cells.invariant.first

pub split_at-requires-in-cells : goal.split_at-requires-in-cells
split_at-requires-in-cells c = has_row c.args.width c.cells.b_rows.now c.cells.b_tallies.now c.if-is_empty-2.ensures c.cells.invariant.second

pub cells-preserved-in-Less : goal.cells-preserved-in-Less
cells-preserved-in-Less c =
    rw c.split_at.ensures.back
    (took_first c.args.width _ c.args.rows.now c.cells.rows _ c.args.tallies.now c.cells.tallies _ _ _ _ _ _ _ _ _ c.cells.invariant (first_of c.cells.a_tallies.now _ c.if-is_empty.ensures) (first_of c.cells.b_tallies.now (record { plus = 0; minus = 0 }) c.if-is_empty-2.ensures)
    (sym (rw (c.split_at.ensures.front, c.split_at-in-cells.ensures.front) at c.in-Less.ensures)) (rw c.split_at.ensures.front at c.push_all-in-Less.ensures) c.push.ensures)

pub cells-preserved-in-Greater : goal.cells-preserved-in-Greater
cells-preserved-in-Greater c =
    rw c.split_at-in-cells.ensures.back
    (took_second c.args.width _ c.args.rows.now c.cells.rows _ c.args.tallies.now c.cells.tallies _ _ _ _ _ _ _ _ _ c.cells.invariant (first_of c.cells.a_tallies.now (record { plus = 0; minus = 0 }) c.if-is_empty.ensures) (first_of c.cells.b_tallies.now _ c.if-is_empty-2.ensures)
    (sym (rw (c.split_at.ensures.front, c.split_at-in-cells.ensures.front) at c.in-Greater.ensures)) (rw c.split_at-in-cells.ensures.front at c.push_all-in-Greater.ensures) c.push-in-Greater.ensures)

pub cells-preserved : goal.cells-preserved
cells-preserved c =
    rw (c.split_at.ensures.back, c.split_at-in-cells.ensures.back)
    (took_both c.args.width _ c.args.rows.now c.cells.rows _ c.args.tallies.now c.cells.tallies _ _ _ _ _ _ _ _ _ c.cells.invariant (first_of c.cells.a_tallies.now _ c.if-is_empty.ensures) (first_of c.cells.b_tallies.now _ c.if-is_empty-2.ensures) c.join.result c.join.ensures
    (sym (rw (c.split_at.ensures.front, c.split_at-in-cells.ensures.front) at c.in-Equal.ensures)) (rw c.split_at.ensures.front at c.push_all-in-Equal.ensures) c.push-in-Equal.ensures)
