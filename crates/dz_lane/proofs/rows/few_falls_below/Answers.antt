use Rattle.std.proofs.Common.{◌∙◌, sym, arith, nat_lt}
use Rattle.dz_lane.proofs.Vectors.{past_vector}
use Rattle.dz_lane.proofs.rows.few_falls_below.Goals as goal

pub vectors-preserved : goal.vectors-preserved
vectors-preserved c = record {
  inside = omega (arith, c.vectors-test.true, c.vectors.invariant.inside);
  same = c.vectors.invariant.same ∙ past_vector (λ x y. nat_lt x y) 4 c.vectors.i c.args.a.now c.args.b.now (sym c.if-falls_below.ensures);
}
