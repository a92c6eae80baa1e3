use Rattle.std.proofs.Common.{◌∙◌, sym, arith, nat_lt}
use Rattle.dz_lane.proofs.Vectors.{past_vector, vector_passes}
use Rattle.dz_lane.proofs.rows.some_falls_below.Goals as goal

pub vectors-preserved : goal.vectors-preserved
vectors-preserved c = record {
  inside = omega (arith, c.vectors-test.true, c.vectors.invariant.inside);
  same = c.vectors.invariant.same ∙ past_vector (λ x y. nat_lt x y) 16 c.vectors.i c.args.a.now c.args.b.now (sym c.if-wide_falls_below.ensures);
}

pub returns-then-wide_falls_below : goal.returns-then-wide_falls_below
returns-then-wide_falls_below c = vector_passes (λ x y. nat_lt x y) 16 c.vectors.i c.args.a.now c.args.b.now c.vectors.invariant.same (sym c.if-wide_falls_below.ensures)
