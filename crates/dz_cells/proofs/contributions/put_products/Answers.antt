use Rattle.std.proofs.Common.{◌≡◌, ◌+◌, sym, ap, length, take, drop, rules, pos, get_or, not}
use Rattle.std.specs.Prelude.{FitsSigned}
use Rattle.std.specs.Int.{w128}
use Rattle.std.specs.Simd.Lanes.{zip2}
use Rattle.std.proofs.lemmas.Int.{to_z-of_z}
use Rattle.dz_cells.specs.Rows.{rows_with}
use Rattle.dz_cells.proofs.Merged.{first_of, has_row, length-cut}
use Rattle.dz_cells.proofs.Contributed.{begun_products, buffer_kept, denied, front_written, held, high_found, length-sums, multiplied}
use Rattle.dz_cells.proofs.contributions.put_products.Goals as goal

pub terms-init : goal.terms-init
terms-init c = record {
  buffer = search rules;
  multiplying = begun_products c.args.row.now _ c.args.rows.now c.args.tallies.now c.args.b_rows.now c.args.b_coefficients.now c.requires.are_rows c.requires.room_for_rows c.requires.room_for_tallies;
}

pub split_at-requires : goal.split_at-requires
split_at-requires c = has_row (length c.args.row.now) c.terms.b_rows.now c.terms.b_coefficients.now c.terms-test.ensures c.terms.invariant.multiplying.left

pub returns-then-not-rows_add-clause-high : goal.returns-then-not-rows_add-clause-high
returns-then-not-rows_add-clause-high c =
    ap not (sym (high_found c.args.row.now _ (rows_with (length c.args.row.now) c.args.b_rows.now c.args.b_coefficients.now) c.args.rows.now c.terms.rows c.terms.rows c.args.tallies.now c.terms.tallies c.terms.tallies c.terms.b_rows.now c.terms.b_coefficients.now _ _ c.terms.invariant.multiplying (first_of c.terms.b_coefficients.now (pos 0) c.terms-test.ensures)
    (held _ (rw c.split_at.ensures.front at c.if-not-rows_add.ensures.value))))

pub terms-preserved : goal.terms-preserved
terms-preserved c =
    let es = c.terms.b_rows.now in
    let row = c.args.row.now in
    let sums = zip2 (λ x y. x + y) row (take (length row) es) in
    let fits : FitsSigned w128 (get_or c.terms.b_coefficients.now 0 (pos 0)) = search rules in
    let room = has_row (length row) es c.terms.b_coefficients.now c.terms-test.ensures c.terms.invariant.multiplying.left in
    let long : length sums ≡ length row = length-sums row (take (length row) es) (sym (length-cut (length row) es room).0) in
    let new : c.rows_add.new.into ≡ sums = rw c.split_at.ensures.front at c.if-not-rows_add.ensures.into in
    record {
      buffer = buffer_kept (length row) sums c.rows_add.new.into c.terms.sums new long c.requires.width c.terms.invariant.buffer;
      multiplying =
          rw c.split_at.ensures.back
          (multiplied row _ _ c.args.rows.now c.terms.rows _ c.args.tallies.now c.terms.tallies _ es c.terms.b_coefficients.now _ _ c.terms.invariant.multiplying (first_of c.terms.b_coefficients.now (pos 0) c.terms-test.ensures) c.of_product.result
          (rw (to_z-of_z w128 (get_or c.terms.b_coefficients.now 0 (pos 0)) fits) at c.of_product.ensures)
          (denied _ (rw c.split_at.ensures.front at c.if-not-rows_add.ensures.value))
          (rw (front_written (length row) sums c.rows_add.new.into (drop (length row) c.terms.sums) new long) at c.push_all.ensures) c.push.ensures);
    }
