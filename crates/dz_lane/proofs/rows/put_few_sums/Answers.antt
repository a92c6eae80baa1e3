use Rattle.std.proofs.Common.{◌+◌, ◌∙◌, arith, nat_lt}
use Rattle.std.proofs.lemmas.Simd.{length-put_chunk}
use Rattle.dz_lane.proofs.Vectors.{vector_free, vector_put, rest_free, rest_put}
use Rattle.dz_lane.proofs.rows.put_few_sums.Goals as goal

pub sums-both-requires : goal.sums-both-requires
sums-both-requires c = vector_free (λ x y. nat_lt 65535 (x + y)) 4 c.vectors.i c.args.a.now c.args.b.now c.requires.lengths.0 c.requires.fit

pub vectors-preserved : goal.vectors-preserved
vectors-preserved c =
    let i = c.vectors.i in let a = c.args.a.now in let b = c.args.b.now in let inv = c.vectors.invariant in
    record {
      inside = omega (arith, c.vectors-test.true, inv.inside);
      long = length-put_chunk i c.vectors.into c.sums-both.result ∙ inv.long;
      done = vector_put (λ x y. x + y) 4 i c.vectors.into a b c.sums-both.result c.requires.lengths.0 inv.long (omega (arith, c.vectors-test.true, inv.inside)) inv.done c.sums-both.ensures;
    }

pub put_plain_sums-requires-clause-fit : goal.put_plain_sums-requires-clause-fit
put_plain_sums-requires-clause-fit c = rest_free (λ x y. nat_lt 65535 (x + y)) c.vectors.i c.args.a.now c.args.b.now c.requires.lengths.0 c.requires.fit

pub returns : goal.returns
returns c = rest_put (λ x y. x + y) c.vectors.i c.vectors.into c.args.a.now c.args.b.now c.put_plain_sums.new.into c.requires.lengths.0 c.vectors.invariant.long
    c.vectors.invariant.inside c.vectors.invariant.done c.put_plain_sums.ensures
