use Rattle.std.proofs.Common.{◌∙◌}
use Rattle.dz_regular.proofs.RowPasses.{gcd_same, one_more}
use Rattle.dz_regular.proofs.combining.row_divisor.Goals as goal

pub loop-i-preserved : goal.loop-i-preserved
loop-i-preserved c =
    one_more c.loop-i.i c.loop-i.all c.common_content-content.result c.common_divisor-all.result c.args.entries.now c.index-entries-entries.result c.loop-i-test.true c.loop-i.invariant c.index-entries-entries.is
    (c.common_content-content.ensures ∙ gcd_same _) c.common_divisor-all.ensures
