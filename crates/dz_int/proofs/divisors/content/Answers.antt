use Rattle.std.proofs.Common.{◌≡◌, pos, slice_index_or, unsigned_abs, rules, arith}
use Rattle.dz_int.proofs.Contents.{content_step, content_is_one}
use Rattle.dz_int.proofs.divisors.content.Goals as goal

pub returns-then-all-eq1 : goal.returns-then-all-eq1
returns-then-all-eq1 c = content_is_one c.args.values.now c.loop-value.value-index c.loop-value.all c.if-all-eq1.true c.loop-value.invariant

pub loop-value-preserved : goal.loop-value-preserved
loop-value-preserved c =
    let absolute : c.unsigned_abs.result ≡ unsigned_abs (slice_index_or c.args.values.now c.loop-value.value-index (pos 0)) = search rules in
    content_step c.args.values.now c.loop-value.value-index c.loop-value.all _ _ (omega arith) c.loop-value.invariant absolute c.divisor-all.ensures
