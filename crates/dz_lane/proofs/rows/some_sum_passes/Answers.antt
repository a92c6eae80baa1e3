use Rattle.std.proofs.Common.{◌+◌, ◌∙◌, sym, arith, nat_lt}
use Rattle.dz_lane.proofs.Vectors.{past_vector, vector_passes}
use Rattle.dz_lane.proofs.rows.some_sum_passes.Goals as goal

pub vectors-preserved : goal.vectors-preserved
vectors-preserved c = record {
  inside = omega (arith, c.vectors-test.true, c.vectors.invariant.inside);
  same = c.vectors.invariant.same ∙ past_vector (λ x y. nat_lt 65535 (x + y)) 16 c.vectors.i c.args.a.now c.args.b.now (sym c.if-wide_sums_pass.ensures);
}

pub returns-then-wide_sums_pass : goal.returns-then-wide_sums_pass
returns-then-wide_sums_pass c = vector_passes (λ x y. nat_lt 65535 (x + y)) 16 c.vectors.i c.args.a.now c.args.b.now c.vectors.invariant.same (sym c.if-wide_sums_pass.ensures)
