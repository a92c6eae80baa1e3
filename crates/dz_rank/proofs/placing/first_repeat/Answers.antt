use Rattle.std.proofs.Common.{sym, arith}
use Rattle.dz_rank.proofs.BlockLists.{apart_more}
use Rattle.dz_rank.proofs.placing.first_repeat.Goals as goal

pub loop-i-preserved : goal.loop-i-preserved
loop-i-preserved c = apart_more c.args.dependents.now c.loop-i.i (omega arith) c.loop-i.invariant (sym c.if-contains.ensures.value)
