use Rattle.std.proofs.Common.{◌+◌, arith}
use Rattle.dz_lane.proofs.Vectors.{summed_ahead, degree_fits}
use Rattle.dz_lane.proofs.rows.row_degree.Goals as goal

pub increased-sums-requires : goal.increased-sums-requires
increased-sums-requires c = let a = c.args.a.now in let i = c.vectors.i in
    omega (arith, degree_fits (i + 8) a c.type_inv.a c.requires, summed_ahead i 8 a, c.vectors.invariant.summed)

pub vectors-preserved : goal.vectors-preserved
vectors-preserved c = let a = c.args.a.now in let i = c.vectors.i in
    record { inside = omega (arith, c.vectors-test.true, c.vectors.invariant.inside); summed = omega (arith, summed_ahead i 8 a, c.vectors.invariant.summed, c.increased-sums.ensures) }

pub total-degree-requires : goal.total-degree-requires
total-degree-requires c = let a = c.args.a.now in let i = c.vectors.i in
    omega (arith, degree_fits i a c.type_inv.a c.requires, c.vectors.invariant.summed)

pub overflow_add-degree : goal.overflow_add-degree
overflow_add-degree c = let a = c.args.a.now in let i = c.entries.i in
    record { fits = omega (arith, degree_fits i a c.type_inv.a c.requires, c.entries.invariant.summed, c.from-degree.ensures, (c.type_inv.a i).fits) }
