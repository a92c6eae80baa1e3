use Rattle.std.proofs.Common.{◌-◌, ◌∙◌, arith, nat_lt}
use Rattle.std.proofs.lemmas.List.{length-set}
use Rattle.dz_lane.proofs.Masks.{not_below}
use Rattle.dz_lane.proofs.Vectors.{entry_free, entry_put}
use Rattle.dz_lane.proofs.rows.put_plain_differences.Goals as goal

pub overflow_sub-into : goal.overflow_sub-into
overflow_sub-into c = not_below _ _ (entry_free (λ x y. nat_lt x y) c.entries.i c.args.a.now c.args.b.now c.requires.lengths.0 c.entries-test.true c.requires.fit)

pub entries-preserved : goal.entries-preserved
entries-preserved c =
    let i = c.entries.i in let a = c.args.a.now in let b = c.args.b.now in let inv = c.entries.invariant in
    record {
      inside = omega (arith, c.entries-test.true);
      long = length-set c.entries.into i _ ∙ inv.long;
      done = entry_put (λ x y. x - y) i c.entries.into a b c.requires.lengths.0 inv.long c.entries-test.true inv.done;
    }
